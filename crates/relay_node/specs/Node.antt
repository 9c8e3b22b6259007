-- The tie between a relay and the lines that were done, those of the match and those of the relay in one list, the newest first: the match
-- stands for its own, the board has the copies of the relay's client, and each spectator met what these lines make it meet.
use Rattle.std.specs.Prelude.{◌≡◌, ℕ, ◌<◌, ◌+◌, ◌==◌, List, [], ◌∷◌, length, slice_index_or, if◌then◌else◌, Option, None, Some}
use Rattle.match_script.specs.declared.limits.TheConstants.{MAX_COUNTED_LINES}
use Rattle.ghost_client.specs.Copies.{copy_of}
use Rattle.ghost_client.specs.State.{copy_in}
use Rattle.match_script.specs.declared.types.BodyLine.{BodyLine}
use Rattle.match_script.specs.declared.types.BodyLine.TheVariants as script
use Rattle.match_script.specs.Ranges.{LineFits}
use Rattle.match_report.specs.declared.told.EventTold.{EventTold}
use Rattle.match_report.specs.declared.told.Told.{Told}
use Rattle.match_report.specs.declared.told.Told.TheVariants as told_as
use Rattle.relay_report.specs.match_engine.Match.{MatchState, StandsFor as MatchStandsFor}
use Rattle.own_lists.specs.pair_core.stream_manager.Packets.{ghosts_seen}
use Rattle.relay_script.specs.declared.entries.Entry.{Entry}
use Rattle.relay_script.specs.declared.entries.Entry.TheVariants.{OfMatch, OfRelay}
use Rattle.relay_script.specs.declared.types.RelayLine.{RelayLine}
use Rattle.relay_script.specs.declared.types.RelayLine.TheVariants.{Scan, Pack, ClientPack, Down, Up, Show}
use Rattle.match_script.specs.declared.types.Head.{Head}
use Rattle.relay_board.specs.declared.board.Change.{Change}
use Rattle.relay_board.specs.Changes.{BoardState}
use Rattle.relay_spectator.specs.declared.spectator.Spectator.{Spectator}
use Rattle.relay_spectator.specs.Spectators.{Follows, Takes, MayTake}
use Rattle.relay_report.specs.Met.{match_past, taken_by, spectator_terms, met}
use Rattle.relay_report.specs.Report.{named, told_of}

pub record NodeState : Type 0 where
  pub relay : ℕ
  pub game : MatchState
  pub board : BoardState
  pub spectators : List Spectator

-- ---- what a line of the match told

abbrev pub came_with : Told → Option (List EventTold)
came_with (told_as.Came way d k moves events) = Some events
came_with other = None

-- the events that client c was delivered, if the line brought it a datagram that it took
abbrev pub events_taken : ℕ → BodyLine → Told → Option (List EventTold)
events_taken c (script.Down d k) told = if d == c then came_with told else None
events_taken c line told = None

-- the plain form of a line that a spectator's connection does by itself
abbrev pub plain_of : RelayLine → Option BodyLine
plain_of (Pack s) = Some (script.Pack s)
plain_of (ClientPack s) = Some (script.ClientPack s)
plain_of (Down s k) = Some (script.Down s k)
plain_of (Up s k) = Some (script.Up s k)
plain_of (Scan s) = None
plain_of (Show s) = None

-- ---- the tie

pub record Stands (n : NodeState) (past : List Entry) : Type 0 where
  pub game : MatchStandsFor n.game (match_past past)
  pub below : n.relay < n.game.script.head.clients
  pub board : (slot : ℕ) → copy_in n.board.slots slot ≡ copy_of (ghosts_seen (taken_by n.game.script.head n.relay (match_past past))) slot
  pub spectators : (s : ℕ) (d : Spectator) → s < length n.spectators
      → Follows (slice_index_or n.spectators s d) (spectator_terms n.game.script.head s) (met n.game.script.head n.relay s past)
  pub few : length past + 1 < MAX_COUNTED_LINES

-- ---- lines

pub record MayPlay (n : NodeState) (line : BodyLine) : Type 0 where
  pub past : List Entry
  pub stands : Stands n past
  pub fits : LineFits n.game.script.head.clients line
  pub few : length past + 2 < MAX_COUNTED_LINES

-- for all lines that it stood for, it stands for them with this one
abbrev pub Plays : NodeState → BodyLine → NodeState → Type 0
Plays old line new = (past : List Entry) → Stands old past → length past + 2 < MAX_COUNTED_LINES → Stands new (OfMatch line ∷ past)

pub record MayRelay (n : NodeState) (line : RelayLine) : Type 0 where
  pub past : List Entry
  pub stands : Stands n past
  pub named : named line < length n.spectators
  pub few : length past + 2 < MAX_COUNTED_LINES

abbrev pub Relays : NodeState → RelayLine → NodeState → Type 0
Relays old line new = (past : List Entry) → Stands old past → length past + 2 < MAX_COUNTED_LINES → Stands new (OfRelay line ∷ past)

abbrev pub TellsRelayed : NodeState → RelayLine → Told → Type 0
TellsRelayed n line told =
    (past : List Entry) → Stands n past → length past + 2 < MAX_COUNTED_LINES
    → told ≡ told_of (spectator_terms n.game.script.head (named line)) (met n.game.script.head n.relay (named line) past) line

abbrev pub Stays : NodeState → NodeState → Type 0
Stays old new = (past : List Entry) → Stands old past → Stands new past

-- its client, its match and how many spectators it has are as they were
pub record Keeps (old new : NodeState) : Type 0 where
  pub relay : new.relay ≡ old.relay
  pub script : new.game.script ≡ old.game.script
  pub spectators : length new.spectators ≡ length old.spectators

-- ---- spectators, one after the other

-- each may be told this
abbrev pub MayTakeAll : List Spectator → List ℕ → List Change → List EventTold → Type 0
MayTakeAll spectators killed changed news =
    (s : ℕ) (d : Spectator) → s < length spectators → MayTake (slice_index_or spectators s d) killed changed news

-- each was told it
abbrev pub TakeAll : List Spectator → List ℕ → List Change → List EventTold → List Spectator → Type 0
TakeAll old killed changed news new =
    (s : ℕ) (d : Spectator) → s < length old → Takes (slice_index_or old s d) killed changed news (slice_index_or new s d)

-- so many spectators that met nothing
pub record AreNew (spectators : List Spectator) (head : Head) (count : ℕ) : Type 0 where
  pub count_is : length spectators ≡ count
  pub each : (s : ℕ) (d : Spectator) → s < count → Follows (slice_index_or spectators s d) (spectator_terms head s) []
