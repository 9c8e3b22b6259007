-- How the rows are kept: in three lists by slot, of what a plan asks, of the fields that the packet of the last turn carries,
-- and of the last packets that carry the other fields.
use Rattle.std.specs.Prelude.{◌≡◌, refl, ℕ, List, [], ◌∷◌, map, if◌then◌else◌, slice_index_or}
use Rattle.std.specs.List.{range_with_len}
use Rattle.tn_types.specs.declared.limits.TheConstants.{MAX_FIELDS}
use Rattle.tn_types.specs.BitWords.{has_bit}
use Rattle.ghost_rows.specs.declared.slot_rows.Standing.{Standing}
use Rattle.ghost_rows.specs.Kept.{Row}

-- the last packet that carries the field: of the last turn, or the one kept
abbrev pub carrier_of : ℕ → ℕ → List ℕ → ℕ → ℕ
carrier_of turn last kept field = if has_bit last field then turn else slice_index_or kept field 0

unfoldable pub carriers_of : ℕ → ℕ → List ℕ → List ℕ
carriers_of turn last kept = map (carrier_of turn last kept) (range_with_len 0 MAX_FIELDS)

-- packet 7 was the last, and carries field 1; packet 5 was the last to carry field 0
seven_and_five : map (carrier_of 7 2 (5 ∷ 4 ∷ [])) (range_with_len 0 2) ≡ 5 ∷ 7 ∷ []
seven_and_five = refl

abbrev pub row_of : Standing → ℕ → List ℕ → Row
row_of standing last kept = record { due = standing.due; turn = standing.turn; carriers = carriers_of standing.turn last kept }

unfoldable pub rows_of : List Standing → List ℕ → List (List ℕ) → List Row
rows_of (s ∷ ss) (l ∷ ls) (k ∷ ks) = row_of s l k ∷ rows_of ss ls ks
rows_of [] _ _ = []
rows_of (_ ∷ _) [] _ = []
rows_of (_ ∷ _) (_ ∷ _) [] = []
