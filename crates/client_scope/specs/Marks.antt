-- How a scan is kept: a mark for each object of a match, 0 for one that wasn't seen and else one more than the level.
use Rattle.std.specs.Prelude.{◌≡◌, ℕ, ◌+◌, ◌-◌, ◌==◌, Bool, List, [], ◌∷◌, if◌then◌else◌, Option, Some, None, is_some, option_map, slice_index_or}
use Rattle.world_scope.specs.declared.viewer.Seen.{Seen}
use Rattle.client_scope.specs.declared.period.ShownPeriod.{ShownPeriod}
use Rattle.client_scope.specs.Scans.{level_in}

abbrev pub told : ℕ → Option ℕ
told mark = if mark == 0 then None else Some (mark - 1)

-- the level that the marks tell of an object
abbrev pub marked : List ℕ → ℕ → Option ℕ
marked marks object = told (slice_index_or marks object 0)

-- the marks tell just what a scan saw
abbrev pub AreOf : List Seen → List ℕ → Type 0
AreOf seen marks = (object : ℕ) → marked marks object ≡ level_in seen object

-- a period goes on at the level that a further scan sees
abbrev pub with_level : ShownPeriod → ℕ → ShownPeriod
with_level p level = record { n = p.n; object = p.object; level = level }

abbrev pub goes_on : (ℕ → Option ℕ) → ShownPeriod → Option ShownPeriod
goes_on level p = option_map (with_level p) (level p.object)

-- a period with the level that a further scan sees, where it sees the object
abbrev pub aged_to : ShownPeriod → Option ℕ → ShownPeriod
aged_to p None = p
aged_to p (Some level) = with_level p level

abbrev pub aged : (ℕ → Option ℕ) → ShownPeriod → ShownPeriod
aged level p = aged_to p (level p.object)

-- whether a further scan sees the object of a period
abbrev pub stays : (ℕ → Option ℕ) → ShownPeriod → Bool
stays level p = is_some (level p.object)

-- periods that begin, the first with number n
abbrev pub begun : ℕ → List Seen → List ShownPeriod
begun n [] = []
begun n (s ∷ seen) = record { n = n; object = s.object; level = s.level } ∷ begun (n + 1) seen
