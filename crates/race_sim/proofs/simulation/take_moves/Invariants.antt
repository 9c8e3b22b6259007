use Rattle.std.proofs.Common.{◌≡◌, ◌<◌, ◌≤◌, ℕ, length, get_or}
use Rattle.race_history.specs.Moves.{move_taken}
use Rattle.race_sim.specs.Ports.{PortState, TakesOne}
use Rattle.race_sim.proofs.simulation.take_moves.Given as goal

abbrev pub invariant-loop-i : goal.invariant-loop-i
invariant-loop-i l = record {
  long : length l.taken.items ≡ l.i;
  count : length l.ports.items ≡ length l.initial.ports.items;
  done : (c : ℕ) (d : PortState) → c < l.i → TakesOne (move_taken c l.taken.items) (get_or l.initial.ports.items c d) (get_or l.ports.items c d);
  later : (c : ℕ) (d : PortState) → l.i ≤ c → get_or l.ports.items c d ≡ get_or l.initial.ports.items c d;
}
