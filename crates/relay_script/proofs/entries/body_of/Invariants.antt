use Rattle.std.proofs.Common.{◌≡◌, ◌+◌, ◌≤◌, length}
use Rattle.std.specs.List.{All}
use Rattle.match_script.specs.Text.{lines_of}
use Rattle.match_script.specs.Ranges.{LineFits}
use Rattle.relay_script.specs.Whole.{entries_of, parts_of}
use Rattle.relay_script.specs.Ranges.{PlacedFits, InOrderFrom}
use Rattle.relay_script.proofs.Bodies.{behind_parts}
use Rattle.relay_script.proofs.entries.body_of.Given as goal

abbrev pub invariant-lines : goal.invariant-lines
invariant-lines l = record {
  so_far : parts_of (entries_of l.clients l.spectators l.n 0 (lines_of l.text)) ≡ behind_parts l.own.items l.lines.items (entries_of l.clients l.spectators l.n l.k (lines_of l.rest));
  few : l.k ≤ 100000;
  count : length l.own.items + length l.lines.items ≡ l.k;
  own : All (LineFits l.clients) l.own.items;
  placed : All (PlacedFits l.spectators (length l.own.items)) l.lines.items;
  in_order : InOrderFrom 0 l.lines.items;
}

abbrev pub decreases-lines : goal.decreases-lines
decreases-lines l = length l.rest
