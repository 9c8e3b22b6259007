use Rattle.std.proofs.Common.{◌≡◌, false}
use Rattle.dirty_lanes.specs.Views.{newest, pending}
use Rattle.lane_tests.proofs.threads.simulate.Given as goal

abbrev pub invariant-loop-i : goal.invariant-loop-i
invariant-loop-i g l = (newest l.sim.steps 0 0 ≡ l.i) × (pending l.sim.steps 0 0 0 ≡ false)
