use Rattle.std.proofs.Common.{◌≡◌, ◌<◌, ℕ}
use Rattle.ghost_client.specs.State.{copy_in}
use Rattle.relay_board.proofs.board.keep.Given as goal

abbrev pub invariant-loop-slot : goal.invariant-loop-slot
invariant-loop-slot l = (k : ℕ) → k < l.slot → copy_in l.slots k ≡ copy_in l.copies.slots k
