use Rattle.std.proofs.Common.{◌≡◌, map, take}
use Rattle.match_laws.specs.own_lists.Past.{showing_of}
use Rattle.match_engine.proofs.serving.showings.Given as goal

abbrev pub invariant-loop-s : goal.invariant-loop-s
invariant-loop-s l = l.out.items ≡ map (showing_of l.world l.client) (take l.s-index l.shows)
