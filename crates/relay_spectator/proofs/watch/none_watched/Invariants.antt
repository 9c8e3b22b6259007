use Rattle.std.proofs.Common.{◌≡◌, ◌≤◌, ◌-◌, ℕ, None, vec_len}
use Rattle.relay_spectator.specs.Watches.{period_at}
use Rattle.relay_spectator.proofs.watch.none_watched.Given as goal

abbrev pub invariant-loop-periods : goal.invariant-loop-periods
invariant-loop-periods l = record { few : vec_len l.periods ≤ 256; empty : (slot : ℕ) → period_at l.periods.items slot ≡ None }

abbrev pub decreases-loop-periods : goal.decreases-loop-periods
decreases-loop-periods l = 256 - vec_len l.periods
