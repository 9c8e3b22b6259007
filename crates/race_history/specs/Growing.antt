-- How told values grow by those of one more world: each field by its value, and each object by its fields. A field or an
-- object that was not there begins from nothing.
use Rattle.std.specs.Prelude.{ℕ, ℤ, zero, suc, pos, ◌-◌, ◌==◌, ◌||◌, Bool, List, [], ◌∷◌, ◌++◌, length, map, drop, slice_index_or, if◌then◌else◌}
use Rattle.world_sim.specs.declared.rows.Write.{Write}
use Rattle.world_sim.specs.Rows.{differs}
use Rattle.race_history.specs.History.{Values}

-- the versions with one more value
abbrev pub grown_later : ℤ → List ℤ → ℤ → List ℤ
grown_later newest [] now = if differs newest now then now ∷ [] else []
grown_later before (v ∷ later) now = v ∷ grown_later v later now

abbrev pub grown : List ℤ → ℤ → List ℤ
grown [] now = now ∷ []
grown (v ∷ later) now = v ∷ grown_later v later now

-- the value differs from the newest one, or is the first
abbrev pub is_new : List ℤ → ℤ → Bool
is_new told now = (length told == 0) || differs (slice_index_or told (length told - 1) (pos 0)) now

-- each of these with what comes to it; where there is none yet, one that begins so
abbrev pub extended : {A B : Type 0} → (A → B → A) → A → List A → List B → List A
extended grow begin told [] = told
extended grow begin [] (now ∷ more) = grow begin now ∷ extended grow begin [] more
extended grow begin (t ∷ told) (now ∷ more) = grow t now ∷ extended grow begin told more

-- the fields of an object with one more value of each
abbrev pub with_row : List (List ℤ) → List ℤ → List (List ℤ)
with_row fields now = extended grown [] fields now

-- the objects with one more row of each
abbrev pub with_rows : Values → List (List ℤ) → Values
with_rows values now = extended with_row [] values now

-- a list with what stands at a place changed
abbrev pub changed_at : {A : Type 0} → ℕ → (A → A) → List A → List A
changed_at i change [] = []
changed_at zero change (x ∷ xs) = change x ∷ xs
changed_at (suc i) change (x ∷ xs) = x ∷ changed_at i change xs

-- the fields of an object with the value of a write
abbrev pub with_value : Write → List (List ℤ) → List (List ℤ)
with_value w fields = changed_at w.field (λ told. grown told w.value) fields

-- the objects with the value of a write, and with those of several
abbrev pub with_write : Write → Values → Values
with_write w values = changed_at w.object (with_value w) values

abbrev pub with_writes : List Write → Values → Values
with_writes [] values = values
with_writes (w ∷ ws) values = with_writes ws (with_write w values)

-- the objects with those that are new, of which these are the rows of all
abbrev pub with_new : Values → List (List ℤ) → Values
with_new values rows = values ++ map (with_row []) (drop (length values) rows)

-- a list that has a place i, where it had all places below it
abbrev pub reached : {A : Type 0} → A → List A → ℕ → List A
reached begin [] i = begin ∷ []
reached begin (x ∷ xs) zero = x ∷ xs
reached begin (x ∷ xs) (suc i) = x ∷ reached begin xs i
