use Rattle.std.proofs.Common.{◌≡◌}
use Rattle.lane_tests.proofs.threads.follow.Given as goal

abbrev pub invariant-loop : goal.invariant-loop
invariant-loop g l = l.pack.client ≡ l.fn.pack.client
