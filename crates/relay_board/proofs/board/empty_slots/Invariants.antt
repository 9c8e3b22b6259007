use Rattle.std.proofs.Common.{◌≡◌, ◌≤◌, ◌-◌, ℕ, None, vec_len}
use Rattle.ghost_client.specs.State.{copy_in}
use Rattle.relay_board.proofs.board.empty_slots.Given as goal

abbrev pub invariant-loop-slots : goal.invariant-loop-slots
invariant-loop-slots l = record { few : vec_len l.slots ≤ 256; empty : (slot : ℕ) → copy_in l.slots.items slot ≡ None }

abbrev pub decreases-loop-slots : goal.decreases-loop-slots
decreases-loop-slots l = 256 - vec_len l.slots
