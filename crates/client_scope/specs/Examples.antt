-- An object that is seen, lost and seen again, beside one that stays and comes nearer.
use Rattle.std.specs.Prelude.{◌≡◌, ℕ, refl, List, [], ◌∷◌}
use Rattle.world_scope.specs.declared.viewer.Seen.{Seen}
use Rattle.client_scope.specs.declared.period.ShownPeriod.{ShownPeriod}
use Rattle.client_scope.specs.Scans.{periods, shown}
use Rattle.client_scope.specs.Changes.{hides, nears, shows}

abbrev at : ℕ → ℕ → Seen
at object level = record { object = object; level = level }

abbrev period : ℕ → ℕ → ℕ → ShownPeriod
period n object level = record { n = n; object = object; level = level }

-- objects 3 and 7, then 7 alone and nearer, then both
abbrev scans : List (List Seen)
scans = (at 3 1 ∷ at 7 0 ∷ []) ∷ (at 7 0 ∷ []) ∷ (at 3 1 ∷ at 7 2 ∷ []) ∷ []

numbered : periods scans ≡ 3 ∷ 7 ∷ 3 ∷ []
numbered = refl

both : shown scans ≡ period 1 7 0 ∷ period 2 3 1 ∷ []
both = refl

alone : hides ((at 7 0 ∷ []) ∷ (at 3 1 ∷ at 7 2 ∷ []) ∷ []) ≡ 0 ∷ []
alone = refl

nearer : nears ((at 7 0 ∷ []) ∷ (at 3 1 ∷ at 7 2 ∷ []) ∷ []) ≡ record { n = 1; level = 0 } ∷ []
nearer = refl

again : shows scans ≡ at 3 1 ∷ []
again = refl
