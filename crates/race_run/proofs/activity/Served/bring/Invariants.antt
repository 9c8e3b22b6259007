use Rattle.std.proofs.Common.{◌≡◌, ℕ, ◌≤◌, length, take}
use Rattle.std.specs.Prelude.{None}
use Rattle.race_run.specs.Asking.{net_lines}
use Rattle.race_run.proofs.activity.Served.bring.Given as goal

abbrev pub invariant-lines : goal.invariant-lines
invariant-lines g l = record {
  all : l.stopped ≡ None → l.done ≡ net_lines l.self.client (take l.i l.self.script.now.body);
  first : (n : ℕ) × (n ≤ l.i) × (l.done ≡ net_lines l.self.client (take n l.self.script.now.body));
  few : length l.done ≤ l.i;
}
