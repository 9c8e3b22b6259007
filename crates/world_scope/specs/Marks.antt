-- The marks of a set's words: a bit for each word that may have a number.
use Rattle.std.specs.Prelude.{◌≡◌, ℕ, ◌≤◌, List, length, slice_index, nat_lt, if◌then◌else◌}
use Rattle.std.specs.Int.{bit_at}

-- a word without a mark is empty, and there are marks for 16 words alone
pub record IsMarked (words : List ℕ) (marks : ℕ) : Type 0 where
  pub many : length words ≡ 16
  pub few : (word : ℕ) → 16 ≤ word → bit_at marks word ≡ 0
  pub none : (word : ℕ) → bit_at marks word ≡ 0 → slice_index words word ≡ 0

-- a mark for each of the first words
abbrev pub AreMarks : ℕ → ℕ → Type 0
AreMarks words marks = (word : ℕ) → bit_at marks word ≡ (if nat_lt word words then 1 else 0)
