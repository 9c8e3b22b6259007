-- What the last scan changed.
use Rattle.std.specs.Prelude.{ℕ, ◌==◌, List, [], ◌∷◌, if◌then◌else◌, Option, Some, None, is_some}
use Rattle.std.specs.List.{filter_map}
use Rattle.world_scope.specs.declared.viewer.Seen.{Seen}
use Rattle.client_scope.specs.declared.period.ShownPeriod.{ShownPeriod}
use Rattle.client_scope.specs.declared.period.Near.{Near}
use Rattle.client_scope.specs.Scans.{level_in, last, new_ones, shown}

-- the number of a period whose object isn't seen any more
abbrev pub hidden : (ℕ → Option ℕ) → ShownPeriod → Option ℕ
hidden level p = if is_some (level p.object) then None else Some p.n

abbrev pub moved_to : ShownPeriod → Option ℕ → Option Near
moved_to p None = None
moved_to p (Some level) = if level == p.level then None else Some (record { n = p.n; level = level })

-- a period with its new level, where its object is seen at another level than before
abbrev pub moved : (ℕ → Option ℕ) → ShownPeriod → Option Near
moved level p = moved_to p (level p.object)

-- the shown periods that the last scan hid, by rising number
abbrev pub hides : List (List Seen) → List ℕ
hides [] = []
hides (seen ∷ scans) = filter_map (hidden (level_in seen)) (shown scans)

-- the shown periods whose level the last scan changed, by rising number, with their new levels
abbrev pub nears : List (List Seen) → List Near
nears [] = []
nears (seen ∷ scans) = filter_map (moved (level_in seen)) (shown scans)

-- what the last scan saw and the one before didn't, in the order of the scan: a period begins with each
abbrev pub shows : List (List Seen) → List Seen
shows [] = []
shows (seen ∷ scans) = new_ones (last scans) seen
