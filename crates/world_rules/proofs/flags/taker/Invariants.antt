use Rattle.std.proofs.Common.{◌≡◌, drop}
use Rattle.world_rules.specs.Flags.{taker}
use Rattle.world_rules.proofs.flags.taker.Given as goal

abbrev pub invariant-loop-p : goal.invariant-loop-p
invariant-loop-p l = taker l.objects l.moves l.o ≡ taker (drop l.p-index l.objects) l.moves l.o
