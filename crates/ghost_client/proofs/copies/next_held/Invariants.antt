use Rattle.std.proofs.Common.{◌≡◌, ℕ, ◌<◌, ◌≤◌, None}
use Rattle.wire_format.specs.Ghosts.{held_in}
use Rattle.ghost_client.proofs.copies.next_held.Given as goal

abbrev pub invariant-slots : goal.invariant-slots
invariant-slots l = (s : ℕ) → l.first ≤ s → s < l.slot → held_in l.held s ≡ None
