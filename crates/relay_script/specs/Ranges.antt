-- The ranges and counts of a relay script. What `parse_relay` gives has them, and each call that takes a relay script may rely on them.
use Rattle.std.specs.Prelude.{ℕ, ◌+◌, ◌^◌, ◌<◌, ◌≤◌, List, [], ◌∷◌, length}
use Rattle.std.specs.List.{All}
use Rattle.match_script.specs.declared.limits.TheConstants.{MAX_BODY_LINES}
use Rattle.match_script.specs.Ranges.{LineFits, HasRanges}
use Rattle.relay_script.specs.declared.asked.Asked.{Asked}
use Rattle.relay_script.specs.declared.entries.Entry.{Entry}
use Rattle.relay_script.specs.declared.entries.Entry.TheVariants.{OfMatch, OfRelay}
use Rattle.relay_script.specs.declared.types.TheConstants.{MAX_SPECTATORS}
use Rattle.relay_script.specs.declared.types.RelayLine.{RelayLine}
use Rattle.relay_script.specs.declared.types.RelayLine.TheVariants.{Scan, Pack, ClientPack, Down, Up, Show}
use Rattle.relay_script.specs.declared.types.PlacedLine.{PlacedLine}
use Rattle.relay_script.specs.declared.types.RelayScript.{RelayScript}

-- a relay line for so many spectators
abbrev pub RelayLineFits : ℕ → RelayLine → Type 0
RelayLineFits spectators (Scan s) = s < spectators
RelayLineFits spectators (Pack s) = s < spectators
RelayLineFits spectators (ClientPack s) = s < spectators
RelayLineFits spectators (Down s k) = (s < spectators) × (k < 2 ^ 32)
RelayLineFits spectators (Up s k) = (s < spectators) × (k < 2 ^ 32)
RelayLineFits spectators (Show s) = s < spectators

-- a relay line that stands between so many lines of a match
abbrev pub PlacedFits : ℕ → ℕ → PlacedLine → Type 0
PlacedFits spectators lines placed = RelayLineFits spectators placed.line × (placed.behind ≤ lines)

-- the next stands behind at least so many lines of the match, and each behind at least as many as the one before it
abbrev pub InOrderFrom : ℕ → List PlacedLine → Type 0
InOrderFrom least [] = Unit {0}
InOrderFrom least (placed ∷ lines) = (least ≤ placed.behind) × InOrderFrom placed.behind lines

-- what the first line says, where there are so many clients
pub record AskedFits (clients : ℕ) (asked : Asked) : Type 0 where
  pub client : asked.client < clients
  pub spectators_least : 1 ≤ asked.spectators
  pub spectators : asked.spectators ≤ MAX_SPECTATORS

-- a line behind `go`, for so many clients and spectators
abbrev pub EntryFits : ℕ → ℕ → Entry → Type 0
EntryFits clients spectators (OfMatch line) = LineFits clients line
EntryFits clients spectators (OfRelay line) = RelayLineFits spectators line

pub record HasRelayRanges (r : RelayScript) : Type 0 where
  pub script : HasRanges r.script
  pub client : r.client < r.script.head.clients
  pub spectators_least : 1 ≤ r.spectators
  pub spectators : r.spectators ≤ MAX_SPECTATORS
  pub few : length r.script.body + length r.lines ≤ MAX_BODY_LINES
  pub lines : All (PlacedFits r.spectators (length r.script.body)) r.lines
  pub in_order : InOrderFrom 0 r.lines
