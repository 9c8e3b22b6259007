-- What a script gives a client's connection over the worlds that the moves of its ticks make: the messages of the lines `scan` and
-- `post` of the client, in the order of the script. A line is done on what the lines before it left; lines and scans are listed
-- newest first, ticks and messages oldest first.
use Rattle.std.specs.Prelude.{ℕ, ◌==◌, Bool, true, false, List, [], ◌∷◌, ◌++◌, map, take, count_by, Option, if◌then◌else◌}
use Rattle.tn_types.specs.declared.moves.MoveBits.{MoveBits}
use Rattle.match_script.specs.declared.types.BodyLine.{BodyLine}
use Rattle.match_script.specs.declared.types.BodyLine.TheVariants as script
use Rattle.world_sim.specs.Worlds.{Worlds}
use Rattle.world_scope.specs.declared.viewer.Seen.{Seen}
use Rattle.world_scope.specs.Scope.{visible_list}
use Rattle.client_scope.specs.declared.period.Near.{Near as NearPeriod}
use Rattle.client_scope.specs.Changes.{hides, nears, shows}
use Rattle.own_lists.specs.Past.{showing_of}
use Rattle.race_messages.specs.declared.message.Message.{Message}
use Rattle.race_messages.specs.declared.message.Message.TheVariants as message
use Rattle.race_history.specs.History.{world_after}

-- ---- the messages of a scan

abbrev pub hide_message : ℕ → Message
hide_message n = message.Hide n

abbrev pub near_message : NearPeriod → Message
near_message p = message.Near p.n p.level

-- a period of the object begins
abbrev pub show_message : Worlds → ℕ → Seen → Message
show_message w c s = message.Show s.object (showing_of w c s).kind (showing_of w c s).block s.level (showing_of w c s).control

-- what the last of these scans of client c changed, made in this world: first the hides, then the new levels, then the shows
abbrev pub scan_messages : Worlds → ℕ → List (List Seen) → List Message
scan_messages w c scans = map hide_message (hides scans) ++ (map near_message (nears scans) ++ map (show_message w c) (shows scans))

-- ---- the worlds

-- the moves of each tick, a move or none of each client
abbrev pub Ticks : Type 0
Ticks = List (List (Option MoveBits))

abbrev pub is_tick : BodyLine → Bool
is_tick script.Tick = true
is_tick line = false

-- how many ticks these lines are
abbrev pub ticks_in : List BodyLine → ℕ
ticks_in lines = count_by is_tick lines

-- the world behind these lines
abbrev pub world_at : Worlds → Ticks → List BodyLine → Worlds
world_at first ticks past = world_after first (take (ticks_in past) ticks)

-- ---- the lines of client c

abbrev pub is_scan_of : ℕ → BodyLine → Bool
is_scan_of c (script.Scan d) = d == c
is_scan_of c line = false

-- what a scan of client c sees behind these lines
abbrev pub seen_at : Worlds → Ticks → ℕ → List BodyLine → List Seen
seen_at first ticks c past = visible_list (world_at first ticks past) c

-- what each of its scans saw
abbrev pub scans_of : Worlds → Ticks → ℕ → List BodyLine → List (List Seen)
scans_of first ticks c [] = []
scans_of first ticks c (line ∷ past) =
    if is_scan_of c line then seen_at first ticks c past ∷ scans_of first ticks c past else scans_of first ticks c past

-- what a line gives to client c behind these lines
abbrev pub line_gives : Worlds → Ticks → ℕ → List BodyLine → BodyLine → List Message
line_gives first ticks c past (script.Scan d) =
    if d == c then scan_messages (world_at first ticks past) c (seen_at first ticks c past ∷ scans_of first ticks c past) else []
line_gives first ticks c past (script.Post d class payload) = if d == c then message.Post class payload ∷ [] else []
line_gives first ticks c past line = []

-- all that these lines give to client c
abbrev pub messages : Worlds → Ticks → ℕ → List BodyLine → List Message
messages first ticks c [] = []
messages first ticks c (line ∷ past) = messages first ticks c past ++ line_gives first ticks c past line
