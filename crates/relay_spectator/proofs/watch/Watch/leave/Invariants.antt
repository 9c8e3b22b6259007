use Rattle.std.proofs.Common.{◌≡◌, ℕ, take, length, if◌then◌else◌, None}
use Rattle.alone_server.specs.Periods.{is_among}
use Rattle.relay_spectator.specs.Watches.{period_at}
use Rattle.relay_spectator.proofs.watch.Watch.leave.Given as goal

abbrev pub invariant-loop-slot : goal.invariant-loop-slot
invariant-loop-slot l = record {
  periods : (s : ℕ) → period_at l.self-inside.periods.items s ≡ (if is_among s (take l.slot-index l.killed) then None else period_at l.fn.self.periods s);
  shows : l.self-inside.shows ≡ l.fn.self.shows;
  size : length l.self-inside.periods.items ≡ 256;
}
