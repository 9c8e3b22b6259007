use Rattle.std.proofs.Common.{◌≡◌, false, length, take, reverse}
use Rattle.world_sim.specs.Worlds.{first_world}
use Rattle.world_lanes.specs.Behind.{IsBrought}
use Rattle.race_sim.specs.Simulating.{HasDone}
use Rattle.race_sim.proofs.lines.simulate.Given as goal

abbrev pub invariant-loop-i : goal.invariant-loop-i
invariant-loop-i g l = record {
  long : length l.sim.ports ≡ l.script.head.clients;
  done : l.failed ≡ false → HasDone (first_world l.script.head.seed l.script.head.setup) (reverse (take l.i l.script.body)) l.sim;
  brought : l.failed ≡ false → IsBrought l.sim.world l.sim.seat.steps;
}
