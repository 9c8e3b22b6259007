use Rattle.std.proofs.Common.{◌≡◌, map}
use Rattle.race_sim.specs.Ports.{waiting_for}
use Rattle.race_sim.proofs.lines.waiting_of.Given as goal

abbrev pub invariant-loop-port : goal.invariant-loop-port
invariant-loop-port l = l.waiting.items ≡ map waiting_for l.yielded
