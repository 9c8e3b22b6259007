-- The script that a server writes of what it meets. Events and lines are listed newest first.
use Rattle.std.specs.Prelude.{ℕ, zero, suc, ◌==◌, if◌then◌else◌, List, [], ◌∷◌, ◌++◌, length, reverse, filter_map, Option, Some, None}
use Rattle.tn_types.specs.declared.choices.Class.{Class}
use Rattle.tn_types.specs.declared.choices.Class.TheVariants.{Guaranteed, Loose}
use Rattle.tn_outside.specs.Links.{Datagram}
use Rattle.match_script.specs.declared.types.BodyLine.{BodyLine}
use Rattle.match_script.specs.declared.types.BodyLine.TheVariants.{Tick, Scan, Pack, Post, Raw}
use Rattle.match_script.specs.declared.types.Head.{Head}
use Rattle.match_script.specs.declared.types.Script.{Script}
use Rattle.match_script.specs.Text.{spelled}
use Rattle.match_script.specs.Print.{line_words, text_of}
use Rattle.match_report.specs.declared.told.EventTold.{EventTold}
use Rattle.match_report.specs.declared.told.Told.{Told}
use Rattle.match_report.specs.declared.told.Told.TheVariants.{Came}
use Rattle.match_engine.specs.match_laws.Report.{told_after}
use Rattle.net_rules.specs.Turns.{Event, Heard, Turned}
use Rattle.net_rules.specs.declared.hello.Hello.{Hello}
use Rattle.net_rules.specs.Hellos.{is_arrival, joined, client_of}

-- ---- an arrival

abbrev pub guaranteed : Class → List ℕ → Option (List ℕ)
guaranteed Guaranteed payload = Some payload
guaranteed Loose payload = None

abbrev pub guaranteed_in : EventTold → Option (List ℕ)
guaranteed_in e = guaranteed e.class e.payload

-- the guaranteed events that an arrival delivers, by what it tells
abbrev pub delivered : Told → List (List ℕ)
delivered (Came way c k moves events) = filter_map guaranteed_in events
delivered told = []

-- the same of the last line, if there was one
abbrev pub delivered_of : Option Told → List (List ℕ)
delivered_of None = []
delivered_of (Some told) = delivered told

-- an event is posted to client d, where it isn't c's own
abbrev pub post_to : ℕ → List ℕ → ℕ → List BodyLine → List BodyLine
post_to c payload d before = if d == c then before else Post d Guaranteed payload ∷ before

-- an event of client c is posted to each other client below a number
abbrev pub post_all : ℕ → List ℕ → ℕ → List BodyLine → List BodyLine
post_all c payload zero before = before
post_all c payload (suc d) before = post_to c payload d (post_all c payload d before)

-- these events, the newest first, are posted so
abbrev pub posts : ℕ → ℕ → List (List ℕ) → List BodyLine → List BodyLine
posts count c [] before = before
posts count c (payload ∷ earlier) before = post_all c payload count (posts count c earlier before)

-- where so many have a client: what an arrival of client c asks for
abbrev pub arrival_lines : Head → ℕ → Option ℕ → List ℕ → List BodyLine → List BodyLine
arrival_lines head count None bytes before = before
arrival_lines head count (Some c) bytes before =
    posts count c (reverse (delivered (told_after head before (Raw c bytes)))) (Raw c bytes ∷ before)

-- the client whose arrival a datagram is, if it is one
abbrev pub sender : List Hello → Datagram → Option ℕ
sender hellos d = if is_arrival d.bytes then client_of hellos d.peer else None

abbrev pub heard_lines : Head → List Hello → Datagram → List BodyLine → List BodyLine
heard_lines head hellos d before = arrival_lines head (length hellos) (sender hellos d) d.bytes before

-- ---- the end of a turn's listening

-- each client below a number is scanned, and a datagram is made for it
abbrev pub after_clients : ℕ → List BodyLine → List BodyLine
after_clients zero before = before
after_clients (suc c) before = Pack c ∷ (Scan c ∷ after_clients c before)

abbrev pub turn_lines : ℕ → List BodyLine → List BodyLine
turn_lines count before = after_clients count (Tick ∷ before)

-- ---- the whole script

-- a line with its newline
abbrev pub script_line : BodyLine → List ℕ
script_line line = spelled (line_words line) ++ 10 ∷ []

-- the lines of what happened
abbrev pub lines : Head → List Event → List BodyLine
lines head [] = []
lines head (Heard d ∷ past) = heard_lines head (joined head.clients past) d (lines head past)
lines head (Turned ∷ past) = turn_lines (length (joined head.clients past)) (lines head past)

-- the script of a header and these lines
abbrev pub script_so_far : Head → List BodyLine → Script
script_so_far head past = record { head = head; body = reverse past }

abbrev pub text_so_far : Head → List BodyLine → List ℕ
text_so_far head past = text_of (script_so_far head past)
