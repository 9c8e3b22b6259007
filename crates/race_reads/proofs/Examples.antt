-- Examples of the rules: an object whose one field had the values 9 and 4, read in periods 0 and 1, which are both of it.
use Rattle.std.proofs.Common.{◌≡◌, List, [], ◌∷◌, refl, arith, Option, Some, true, false}
use Rattle.std.specs.Prelude.{pos, ℕ}
use Rattle.tn_types.specs.declared.choices.Read.{Read}
use Rattle.race_history.specs.History.{Values}
use Rattle.race_reads.specs.Reads.{ReadStands, NeverFalls, IsCurrent, IsNewest, IsMarked, IsDue, last_read}

abbrev values : Values
values = ((pos 9 ∷ pos 4 ∷ []) ∷ []) ∷ []

abbrev objects : List ℕ
objects = 0 ∷ 0 ∷ []

abbrev first : Read
first = record { n = 0; field = 0; version = 1; value = pos 9 }

abbrev second : Read
second = record { n = 1; field = 0; version = 2; value = pos 4 }

first_stands : ReadStands values objects first
first_stands = record { shown = omega arith; written = omega arith; value = refl }

-- the opening entry of a lane is no version
opening_is_none : ReadStands values objects (record { n = 0; field = 0; version = 0; value = pos 9 }) → ⊥
opening_is_none h = omega (arith, h.written)

-- another value than that of its version
other_value : ReadStands values objects (record { n = 0; field = 0; version = 2; value = pos 9 }) → ⊥
other_value h = let e : Some (pos 4) ≡ Some (pos 9) = h.value in absurd (cc)

falling : NeverFalls objects (first ∷ second ∷ first ∷ []) → ⊥
falling h = let e = h.1.0.0 (refl, refl) in omega (arith, e)

rising : NeverFalls objects (first ∷ second ∷ second ∷ [])
rising = ((λ _. omega arith, (λ _. omega arith, tt)), ((λ _. omega arith, tt), (tt, tt)))

-- what was read in period 1 is the newest
newest_in_second : IsCurrent values 0 false (last_read (first ∷ second ∷ []) 1 0) 0 0
newest_in_second = IsNewest refl

-- what was read in period 0 is older, and the field is neither marked nor due
older_in_first : IsCurrent values 0 false (last_read (first ∷ second ∷ []) 0 0) 0 0 → ⊥
older_in_first (IsNewest e) = let f : ◌≡◌ {A = Option ℕ} (Some 1) (Some 2) = e in absurd (cc)
older_in_first (IsMarked e) = let f : false ≡ true = e in absurd (cc)
older_in_first (IsDue e) = absurd (cc)
