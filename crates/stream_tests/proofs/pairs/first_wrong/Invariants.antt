use Rattle.pair_core.specs.Calls.{Stands}
use Rattle.stream_tests.proofs.pairs.first_wrong.Given as goal

abbrev pub invariant-steps : goal.invariant-steps
invariant-steps l = record {
  stands : Stands l.pair;
}
