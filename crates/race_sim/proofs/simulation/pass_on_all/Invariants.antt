use Rattle.std.proofs.Common.{◌≡◌, ◌<◌, ◌≤◌, ℕ, length, get_or}
use Rattle.race_sim.specs.Ports.{PortState, HasPassedOn}
use Rattle.race_sim.proofs.simulation.pass_on_all.Given as goal

abbrev pub invariant-loop-i : goal.invariant-loop-i
invariant-loop-i l = record {
  count : length l.ports.items ≡ length l.initial.ports.items;
  done : (c : ℕ) (d : PortState) → c < l.i → HasPassedOn (get_or l.initial.ports.items c d) (get_or l.ports.items c d);
  later : (c : ℕ) (d : PortState) → l.i ≤ c → get_or l.ports.items c d ≡ get_or l.initial.ports.items c d;
}
