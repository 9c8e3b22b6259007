use Rattle.std.proofs.Common.{◌≡◌, ◌≤◌, ◌-◌, length}
use Rattle.std.specs.List.{All}
use Rattle.match_script.specs.Text.{lines_of}
use Rattle.match_script.specs.Script.{blocks_of}
use Rattle.match_script.specs.Ranges.{BlockFits}
use Rattle.match_script.proofs.BlockLines.{behind_blocks}
use Rattle.match_script.proofs.head.blocks_of.Given as goal

abbrev pub invariant-lines : goal.invariant-lines
invariant-lines l = record {
  so_far : blocks_of 0 (lines_of l.text) ≡ behind_blocks l.blocks.items (blocks_of l.k (lines_of l.rest));
  few : l.k ≤ 64;
  count : length l.blocks.items ≡ l.k;
  fits : All BlockFits l.blocks.items;
}

abbrev pub decreases-lines : goal.decreases-lines
decreases-lines l = 64 - l.k
