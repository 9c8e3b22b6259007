use Rattle.std.proofs.Common.{◌≡◌, take}
use Rattle.client_predict.specs.Standing.{IsStanding, played}
use Rattle.client_predict.proofs.predict.played.Given as goal

abbrev pub invariant-moves : goal.invariant-moves
invariant-moves l = (l.at ≡ played l.initial.at (take l.m-index l.moves)) × IsStanding l.at
