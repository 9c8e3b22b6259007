-- A value keeps no list of what happened to it. `stands` says for which lists, the newest event first, it may stand; a
-- call's contract says what it does to every such list, and what it answers of it.
use Rattle.std.specs.Prelude.{◌≡◌, List, ◌∷◌}

-- for every list that the old value stood for, the new one stands for it with the event added
abbrev pub Does : {V E : Type 0} → (V → List E → Type 0) → V → E → V → Type 0
Does {V} {E} stands old event new = (log : List E) → stands old log → stands new (event ∷ log)

-- for every list that the value stood for, the result is what f says of it
abbrev pub Answers : {V E R : Type 0} → (V → List E → Type 0) → V → (List E → R) → R → Type 0
Answers {V} {E} {R} stands old f result = (log : List E) → stands old log → result ≡ f log
