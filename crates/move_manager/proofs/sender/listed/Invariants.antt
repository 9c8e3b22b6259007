use Rattle.std.proofs.Common.{◌≡◌, take}
use Rattle.move_manager.proofs.sender.listed.Given as goal

abbrev pub invariant-loop-m : goal.invariant-loop-m
invariant-loop-m l = l.list ≡ take l.m-index l.moves
