use Rattle.std.proofs.Common.{◌≡◌, ◌⊎◌, ℕ, ◌+◌, ◌<◌, ◌≤◌, bit_or}
use Rattle.std.specs.Prelude.{slice_index}
use Rattle.dirty_lanes.proofs.plain.raise_in.Given as goal

abbrev pub invariant-loop-client : goal.invariant-loop-client
invariant-loop-client l = record {
  raised : (k : ℕ) → k < l.client → slice_index l.words (l.from + k) ≡ bit_or (slice_index l.fn.words (l.from + k)) l.bits;
  others : (i : ℕ) → (i < l.from) ⊎ (l.from + l.client ≤ i) → slice_index l.words i ≡ slice_index l.fn.words i;
}
