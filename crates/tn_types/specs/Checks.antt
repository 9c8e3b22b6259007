-- Checks that are made one after another: the first that refuses decides.
use Rattle.std.specs.Prelude.{◌≡◌, List, [], ◌∷◌, ◌++◌, Option, Some, None, Result, Ok, Err, nat_lt, sum, if◌then◌else◌, refl}
use Rattle.std.specs.Option.{option_or}

-- no refusal, or the first
abbrev pub Checked : Type 0 → Type 0
Checked E = Result (Unit {0}) E

-- a check, and where it refuses nothing the next
abbrev pub then_check : {E : Type 0} → Checked E → Checked E → Checked E
then_check (Ok u) next = next
then_check (Err e) next = Err e

-- the first fault of items that stand behind `before`: each is looked at with all that stand before it
abbrev pub first_fault : {A E : Type 0} → (List A → A → Option E) → List A → List A → Option E
first_fault fault before [] = None
first_fault fault before (x ∷ xs) = option_or (fault before x) (first_fault fault (before ++ x ∷ []) xs)

-- no item is faulty behind those before it
abbrev pub IsFaultless : {A E : Type 0} → (List A → A → Option E) → List A → List A → Type 0
IsFaultless fault before [] = Unit {0}
IsFaultless fault before (x ∷ xs) = (fault before x ≡ None) × IsFaultless fault (before ++ x ∷ []) xs

-- an item is faulty behind those before it, and none before it is; or none is
abbrev pub IsFirstFault : {A E : Type 0} → (List A → A → Option E) → List A → List A → Option E → Type 0
IsFirstFault {A} fault before xs (Some e) =
    (front : List A) × (x : A) × (rest : List A)
    × (xs ≡ front ++ x ∷ rest) × (fault (before ++ front) x ≡ Some e) × IsFaultless fault before front
IsFirstFault fault before xs None = IsFaultless fault before xs

-- a number that is less than the sum of those before it
falls_behind : first_fault (λ before n. if nat_lt n (sum before) then Some n else None) [] (1 ∷ 2 ∷ 2 ∷ 0 ∷ []) ≡ Some 2
falls_behind = refl
