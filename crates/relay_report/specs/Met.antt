-- What a spectator of a relay meets, by the lines of a relay script: the packets that the relay's client took of the match, and the
-- spectator's own lines among them. Lines are listed newest first, those of the match and those of the relay in one list.
use Rattle.std.specs.Prelude.{ℕ, ◌-◌, ◌==◌, List, [], ◌∷◌, ◌++◌, length, map, take, drop, reverse, if◌then◌else◌}
use Rattle.wire_format.specs.declared.server.ServerPacket.{ServerPacket}
use Rattle.match_script.specs.declared.types.BodyLine.{BodyLine}
use Rattle.match_script.specs.declared.types.BodyLine.TheVariants as script
use Rattle.match_script.specs.declared.types.Head.{Head}
use Rattle.match_engine.specs.match_laws.Values.{steps_of}
use Rattle.own_lists.specs.pair_core.stream_manager.Limits.{Terms}
use Rattle.own_lists.specs.pair_core.stream_manager.Client.{ClientEvent}
use Rattle.own_lists.specs.pair_core.stream_manager.Packets.{packets_at}
use Rattle.own_lists.specs.pair_core.History.{history}
use Rattle.own_lists.specs.Past.{client_terms}
use Rattle.relay_script.specs.declared.entries.Entry.{Entry}
use Rattle.relay_script.specs.declared.entries.Entry.TheVariants.{OfMatch, OfRelay}
use Rattle.relay_script.specs.declared.types.PlacedLine.{PlacedLine}
use Rattle.relay_script.specs.declared.types.RelayLine.{RelayLine}
use Rattle.relay_script.specs.declared.types.RelayLine.TheVariants.{Scan, Pack, ClientPack, Down, Up, Show}
use Rattle.relay_model.specs.Watching.{WatchEvent, Took, Scans, Own}

-- ---- the lines before one

-- the first lines of a match and these lines of the relay, each of which stands behind so many of the match
abbrev pub past_of : List BodyLine → ℕ → List PlacedLine → List Entry
past_of body place [] = map OfMatch (reverse (take place body))
past_of body place (placed ∷ earlier) =
    map OfMatch (reverse (take (place - placed.behind) (drop placed.behind body))) ++ OfRelay placed.line ∷ past_of body placed.behind earlier

-- those of the match
abbrev pub match_past : List Entry → List BodyLine
match_past [] = []
match_past (OfMatch line ∷ past) = line ∷ match_past past
match_past (OfRelay line ∷ past) = match_past past

-- ---- packets

-- what happened at the end of a client of the match
abbrev pub end_of : Head → ℕ → List BodyLine → List ClientEvent
end_of head c past = (history (client_terms head c) (steps_of head past c)).client

-- the packets that the client took
abbrev pub taken_by : Head → ℕ → List BodyLine → List ServerPacket
taken_by head c past = packets_at (end_of head c past)

-- those that are among the newer ones and not among the older
abbrev pub newly : List ServerPacket → List ServerPacket → List WatchEvent
newly older newer = map Took (take (length newer - length older) newer)

-- ---- a spectator

-- what a spectator's connection is made with, by the header of the match; its number is its client's
abbrev pub spectator_terms : Head → ℕ → Terms
spectator_terms head s = client_terms head s

-- what a spectator meets of a relay's line; a line that shows what it has changes nothing
abbrev pub asked_of : ℕ → RelayLine → List WatchEvent
asked_of s (Scan d) = if d == s then Scans ∷ [] else []
asked_of s (Pack d) = if d == s then Own (script.Pack d) ∷ [] else []
asked_of s (ClientPack d) = if d == s then Own (script.ClientPack d) ∷ [] else []
asked_of s (Down d k) = if d == s then Own (script.Down d k) ∷ [] else []
asked_of s (Up d k) = if d == s then Own (script.Up d k) ∷ [] else []
asked_of s (Show d) = []

-- what spectator s of the relay that is client c meets by these lines
abbrev pub met : Head → ℕ → ℕ → List Entry → List WatchEvent
met head c s [] = []
met head c s (OfMatch line ∷ past) = newly (taken_by head c (match_past past)) (taken_by head c (line ∷ match_past past)) ++ met head c s past
met head c s (OfRelay line ∷ past) = asked_of s line ++ met head c s past
