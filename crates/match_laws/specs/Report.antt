-- The report of a script: one line for each line of its body. What a line tells that names a client is a function of that
-- client's own list and of nothing else; what a tick and `world` tell is a function of the worlds.
use Rattle.std.specs.Prelude.{ℕ, List, [], ◌∷◌, ◌++◌, length, reverse}
use Rattle.std.specs.List.{flat_map}
use Rattle.match_script.specs.declared.types.BodyLine.{BodyLine}
use Rattle.match_script.specs.declared.types.BodyLine.TheVariants as script
use Rattle.match_script.specs.declared.types.Head.{Head}
use Rattle.match_script.specs.declared.types.Script.{Script}
use Rattle.match_report.specs.declared.told.Told.{Told}
use Rattle.match_report.specs.declared.told.Told.TheVariants as told_as
use Rattle.match_report.specs.Text.{report_line}
use Rattle.world_sim.specs.Worlds.{Worlds}
use Rattle.world_scope.specs.declared.viewer.Seen.{Seen}
use Rattle.client_scope.specs.Changes.{hides, nears, shows}
use Rattle.client_seat.specs.own_lists.bit_stream.WorldMoves.{bits_of}
use Rattle.client_seat.specs.own_lists.Kept.{undrained}
use Rattle.client_seat.specs.own_lists.Past.{Past, client_terms, kept_by, after}
use Rattle.client_seat.specs.Told.{post_told, client_post_told, move_told, pack_told, client_pack_told, brought_down_told, brought_up_told, raw_told, show_told}
use Rattle.match_laws.specs.World.{living}

abbrev pub tick_told : Worlds → Told
tick_told w = told_as.Tick w.ticks (length w.writes)

-- what the last of a client's scans changed
abbrev pub scan_told : ℕ → List (List Seen) → Told
scan_told c scans = told_as.Scan c (length (hides scans)) (length (nears scans)) (length (shows scans))

abbrev pub world_told : Worlds → Told
world_told w = told_as.World w.ticks (living w)

-- what a line tells, by what happened before it and with it
abbrev pub told : Head → Past → Past → BodyLine → Told
told head p q script.Tick = tick_told q.world
told head p q (script.Scan c) = scan_told c (q.scans c)
told head p q (script.Post c class payload) = post_told (client_terms head c) (kept_by head p c).course.steps c class
told head p q (script.ClientPost c class payload) = client_post_told (client_terms head c) (kept_by head p c).course.steps c class
told head p q (script.Pack c) = pack_told (client_terms head c) (kept_by head p c) c
told head p q (script.ClientPack c) = client_pack_told c (client_terms head c) (kept_by head p c).course.steps
told head p q (script.Down c place) = brought_down_told c place (client_terms head c) (kept_by head p c).course.steps
told head p q (script.Up c place) = brought_up_told c place (client_terms head c) (kept_by head p c).course
told head p q (script.Raw c bytes) = raw_told c bytes (client_terms head c) (kept_by head p c).course
told head p q (script.Move c m) = move_told (client_terms head c) (kept_by head p c).course.steps c (bits_of m)
told head p q (script.Show c) = show_told (client_terms head c) (kept_by head p c).course c (undrained (kept_by head p c))
told head p q script.World = world_told q.world

-- ---- the report

-- what a line of the script tells after these lines
abbrev pub told_after : Head → List BodyLine → BodyLine → Told
told_after head past line = told head (after head past) (after head (line ∷ past)) line

-- the same, as the report says it
abbrev pub line_text : Head → List BodyLine → BodyLine → List ℕ
line_text head past line = report_line (told_after head past line)

-- the lines that were done, the oldest first, each with its line of the report
abbrev pub told_lines : Head → List BodyLine → List (BodyLine × List ℕ)
told_lines head [] = []
told_lines head (line ∷ past) = told_lines head past ++ (line, line_text head past line) ∷ []

abbrev pub text_behind : BodyLine × List ℕ → List ℕ
text_behind x = x.1

abbrev pub report_so_far : Head → List BodyLine → List ℕ
report_so_far head past = flat_map text_behind (told_lines head past)

-- the whole report
unfoldable pub report : Script → List ℕ
report s = report_so_far s.head (reverse s.body)
