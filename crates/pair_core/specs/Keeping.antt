-- What a pair keeps of the datagrams that its server's end sent: each of them, so that the network can bring it as late as it
-- likes, or the newest alone, where each is handed on as soon as it is made.
use Rattle.std.specs.Prelude.{◌≡◌, refl, ℕ, ◌-◌, Bool, true, false, Option, Some, List, [], ◌∷◌, length, drop, slice_get}

-- the last of a list
abbrev pub newest : {A : Type 0} → List A → Option A
newest xs = slice_get xs (length xs - 1)

-- a list of the last alone
abbrev pub newest_alone : {A : Type 0} → List A → List A
newest_alone xs = drop (length xs - 1) xs

-- all, or the last alone
abbrev pub kept : {A : Type 0} → Bool → List A → List A
kept true xs = xs
kept false xs = newest_alone xs

-- of three datagrams
third : newest {A = List ℕ} ((7 ∷ []) ∷ (8 ∷ []) ∷ (9 ∷ []) ∷ []) ≡ Some (9 ∷ [])
third = refl

third_alone : kept {A = List ℕ} false ((7 ∷ []) ∷ (8 ∷ []) ∷ (9 ∷ []) ∷ []) ≡ (9 ∷ []) ∷ []
third_alone = refl
