-- The periods of a client after its scans, the last scan first. A scan is the list of what it saw.
use Rattle.std.specs.Prelude.{ℕ, ◌+◌, ◌==◌, Bool, not, List, [], ◌∷◌, ◌++◌, map, filter, drop, if◌then◌else◌, Option, Some, None, is_some, option_map}
use Rattle.std.specs.List.{filter_map, enumerate_from, list_any}
use Rattle.world_scope.specs.declared.viewer.Seen.{Seen}
use Rattle.client_scope.specs.declared.period.ShownPeriod.{ShownPeriod}

-- at which level a scan saw an object, if it did
abbrev pub level_in : List Seen → ℕ → Option ℕ
level_in [] object = None
level_in (s ∷ seen) object = if s.object == object then Some s.level else level_in seen object

-- what the last scan saw
abbrev pub last : List (List Seen) → List Seen
last [] = []
last (seen ∷ scans) = seen

-- whether an object was not seen before
abbrev pub is_new : (ℕ → Option ℕ) → Seen → Bool
is_new before s = not (is_some (before s.object))

-- what a scan saw and the one before it didn't
abbrev pub new_ones : List Seen → List Seen → List Seen
new_ones before seen = filter (is_new (level_in before)) seen

-- the object of each period there was, in the order of their numbers: a period begins with each object that a scan saw
-- and the one before it didn't
abbrev pub periods : List (List Seen) → List ℕ
periods [] = []
periods (seen ∷ scans) = periods scans ++ map (λ s. s.object) (new_ones (last scans) seen)

-- whether a period after period n has the object
abbrev pub comes_again : List ℕ → ℕ → ℕ → Bool
comes_again objects n object = list_any (λ o. o == object) (drop (n + 1) objects)

abbrev pub at_level : ℕ × ℕ → ℕ → ShownPeriod
at_level e level = record { n = e.0; object = e.1; level = level }

-- period n of this object, where it still lasts: the last scan saw the object, and no later period has it
abbrev pub lasting : List ℕ → (ℕ → Option ℕ) → ℕ × ℕ → Option ShownPeriod
lasting objects level e = if comes_again objects e.0 e.1 then None else option_map (at_level e) (level e.1)

-- the periods that are shown and not hidden, by rising number
abbrev pub shown : List (List Seen) → List ShownPeriod
shown scans = filter_map (lasting (periods scans) (level_in (last scans))) (enumerate_from 0 (periods scans))
