-- Slots as bits of four words: slot s is a member where word s / 64 has bit s % 64.
use Rattle.std.specs.Prelude.{ℕ, zero, suc, ◌/◌, ◌%◌, Bool, List, [], ◌∷◌, ◌*◌, ◌-◌, slice_index_or, slice_set, if◌then◌else◌}
use Rattle.tn_types.specs.BitWords.{has_bit}

abbrev pub in_words : List ℕ → ℕ → Bool
in_words ws s = has_bit (slice_index_or ws (s / 64) 0) (s % 64)

-- those of the k slots from s on that pass the test, by rising number
abbrev pub passing : (ℕ → Bool) → ℕ → ℕ → List ℕ
passing p zero s = []
passing p (suc k) s = if p s then s ∷ passing p k (suc s) else passing p k (suc s)

unfoldable pub members : List ℕ → List ℕ
members ws = passing (in_words ws) 256 0

-- the members from a word on, of which `rest` is left: those that a walk at this word still comes to
unfoldable pub to_come : List ℕ → ℕ → ℕ → List ℕ
to_come ws word rest = passing (in_words (slice_set ws word rest)) (256 - 64 * word) (64 * word)
