use Rattle.std.proofs.Common.{◌≡◌, take, length}
use Rattle.std.specs.Slots.{slots_items, slots_len}
use Rattle.dirty_lanes.proofs.ends.copy_words.Given as goal

abbrev pub invariant-loop-i : goal.invariant-loop-i
invariant-loop-i l = (take l.i l.words.items ≡ take l.i (slots_items l.closed.words)) × (length l.words.items ≡ slots_len l.closed.words)
