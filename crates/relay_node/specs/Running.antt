-- A relay and its script: the lines that stand before one of the relay's. Only the parts of a run are said with these words.
use Rattle.std.specs.Prelude.{◌≡◌, ℕ, ◌<◌, ◌+◌, ◌≤◌, List, [], ◌∷◌, length, Option}
use Rattle.std.specs.List.{All}
use Rattle.match_script.specs.Ranges.{LineFits}
use Rattle.match_script.specs.declared.limits.TheConstants.{MAX_COUNTED_LINES}
use Rattle.relay_script.specs.declared.entries.Entry.{Entry}
use Rattle.relay_script.specs.declared.entries.Entry.TheVariants.{OfRelay}
use Rattle.relay_script.specs.declared.types.PlacedLine.{PlacedLine}
use Rattle.relay_script.specs.declared.types.RelayScript.{RelayScript}
use Rattle.relay_report.specs.Met.{past_of}
use Rattle.relay_report.specs.Report.{named, line_text}
use Rattle.relay_node.specs.Node.{NodeState, Stands}

-- each of these lines of the relay, the newest first, stands behind no more of the match than the next one, and the last behind so many
abbrev pub IsBehind : List PlacedLine → ℕ → Type 0
IsBehind [] place = Unit {0}
IsBehind (placed ∷ earlier) place = (placed.behind ≤ place) × IsBehind earlier placed.behind

-- a relay that stands for the first lines of the match and these of the relay
abbrev pub IsAt : NodeState → RelayScript → ℕ → List PlacedLine → Type 0
IsAt n r place earlier = Stands n (past_of r.script.body place earlier)

pub record MayCatchUp (n : NodeState) (r : RelayScript) (from to : ℕ) : Type 0 where
  pub earlier : List PlacedLine
  pub at : IsAt n r from earlier
  pub behind : IsBehind earlier from
  pub order : from ≤ to
  pub within : to ≤ length r.script.body
  pub script : n.game.script ≡ r.script
  pub fits : All (LineFits r.script.head.clients) r.script.body
  pub few : to + length earlier + 2 < MAX_COUNTED_LINES

abbrev pub CatchesUp : NodeState → RelayScript → ℕ → ℕ → NodeState → Type 0
CatchesUp old r from to new =
    (earlier : List PlacedLine) → IsAt old r from earlier → IsBehind earlier from → to + length earlier + 2 < MAX_COUNTED_LINES
    → IsAt new r to earlier

pub record MayStep (n : NodeState) (placed : PlacedLine) : Type 0 where
  pub past : List Entry
  pub stands : Stands n past
  pub named_is : named placed.line < length n.spectators
  pub few : length past + 2 < MAX_COUNTED_LINES

abbrev pub Steps : NodeState → PlacedLine → NodeState → Type 0
Steps old placed new = (past : List Entry) → Stands old past → length past + 2 < MAX_COUNTED_LINES → Stands new (OfRelay placed.line ∷ past)

abbrev pub Writes : (Option (List ℕ) → Option (List ℕ) → List ℕ → Type 0) → NodeState → PlacedLine → Option (List ℕ) → Option (List ℕ) → Type 0
Writes adds n placed written written' =
    (past : List Entry) → Stands n past → length past + 2 < MAX_COUNTED_LINES
    → adds written written' (line_text n.game.script.head n.relay past placed.line)
