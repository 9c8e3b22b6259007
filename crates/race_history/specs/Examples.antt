-- Small values and what the definitions make of them.
use Rattle.std.specs.Prelude.{◌≡◌, pos, refl, [], ◌∷◌, Some, None}
use Rattle.race_history.specs.History.{Values, versions, versions_told, version_told, newest}

-- a value that comes again is a version of its own, and one that stays is none
returns : versions (pos 5 ∷ pos 5 ∷ pos 7 ∷ pos 7 ∷ pos 5 ∷ []) ≡ pos 5 ∷ pos 7 ∷ pos 5 ∷ []
returns = refl

stays : versions (pos 5 ∷ pos 5 ∷ []) ≡ pos 5 ∷ []
stays = refl

-- object 1 has two fields
abbrev told : Values
told = [] ∷ ((pos 4 ∷ []) ∷ (pos 0 ∷ pos 1 ∷ []) ∷ []) ∷ []

second : version_told told 1 1 1 ≡ Some (pos 1)
second = refl

no_third : version_told told 1 1 2 ≡ None
no_third = refl

newest_one : newest told 1 1 ≡ 1
newest_one = refl

past_the_end : versions_told told 2 0 ≡ []
past_the_end = refl
