use Rattle.std.proofs.Common.{◌≡◌, ℕ, ◌<◌, take}
use Rattle.std.specs.Int.{bit_at}
use Rattle.datablocks.specs.Holding.{held_at, held_bit, after_all}
use Rattle.datablocks.proofs.receiver.BlockReceiver.held_after.Given as goal

abbrev pub invariant-items : goal.invariant-items
invariant-items l = (b : ℕ) → b < 64 → bit_at l.held b ≡ held_bit (held_at (after_all l.self (take l.item-index l.item-items)) b)
