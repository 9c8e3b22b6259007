-- One line of the relay in a run of its script.
use Rattle.std.proofs.Common.{◌≡◌, ◌∙◌, ℕ, ◌+◌, ◌<◌, ◌≤◌, List, ◌∷◌, length, get_or, take, drop, reverse, sym, ap, subst, arith}
use Rattle.std.specs.List.{All}
use Rattle.std.proofs.lemmas.List.{get_or_default, drop_more, length-reverse, length-take}
use Rattle.std.proofs.lemmas.List.Elements.{All-get_or}
use Rattle.relay_script.specs.declared.types.PlacedLine.{PlacedLine}
use Rattle.relay_script.specs.declared.types.RelayLine.{RelayLine}
use Rattle.relay_script.specs.declared.types.RelayLine.TheVariants.{Scan, Pack, ClientPack, Down, Up, Show}
use Rattle.relay_script.specs.declared.types.RelayScript.{RelayScript}
use Rattle.relay_script.specs.Ranges.{RelayLineFits, PlacedFits, InOrderFrom, HasRelayRanges}
use Rattle.relay_report.specs.Met.{past_of}
use Rattle.relay_report.specs.Report.{named}
use Rattle.relay_node.specs.Running.{IsBehind}
use Rattle.relay_node.proofs.Places.{behind_later, few_past}

named_below : (spectators : ℕ) (line : RelayLine) → RelayLineFits spectators line → named line < spectators
named_below spectators (Scan s) h = h
named_below spectators (Pack s) h = h
named_below spectators (ClientPack s) h = h
named_below spectators (Down s k) h = h.0
named_below spectators (Up s k) h = h.0
named_below spectators (Show s) h = h

abbrev pub no_line : PlacedLine
no_line = record { behind = 0; line = Scan 0 }

module _ (r : RelayScript) (ranges : HasRelayRanges r) (lines : List PlacedLine) (same : lines ≡ r.lines) (i : ℕ) (lt : i < length lines) (placed : PlacedLine)
    (is : placed ≡ get_or lines i no_line) where
  abbrev earlier : List PlacedLine
  earlier = reverse (take i lines)

  pub is_there : placed ≡ get_or lines i placed
  is_there = is ∙ get_or_default lines i no_line placed lt

  pub fits : PlacedFits r.spectators (length r.script.body) placed
  fits =
      subst (PlacedFits r.spectators (length r.script.body)) (sym is)
      (All-get_or (PlacedFits r.spectators (length r.script.body)) lines i no_line lt
      (subst (λ (l : List PlacedLine). All (PlacedFits r.spectators (length r.script.body)) l) (sym same) ranges.lines))

  pub is_named : named placed.line < r.spectators
  is_named = named_below r.spectators placed.line fits.0

  pub ordered : (place : ℕ) → InOrderFrom place (drop i lines) → (place ≤ placed.behind) × InOrderFrom placed.behind (drop (i + 1) lines)
  ordered place = subst (InOrderFrom place) (drop_more lines i placed lt ∙ ap (λ (p : PlacedLine). p ∷ drop (i + 1) lines) (sym is_there))

  pub few_lines_then : placed.behind + length earlier + 2 < 4000000
  few_lines_then =
      let all = ranges.few in
      let within = fits.1 in
      omega (arith, all, within, lt, ap (λ (l : List PlacedLine). length l) same, length-reverse (take i lines), length-take i lines)

  pub few_then : (place : ℕ) → IsBehind earlier place → place ≤ placed.behind → length (past_of r.script.body placed.behind earlier) + 2 < 4000000
  few_then place behind le =
      let few = few_past r.script.body earlier placed.behind (behind_later earlier place placed.behind behind le) in
      omega (arith, few, few_lines_then)
