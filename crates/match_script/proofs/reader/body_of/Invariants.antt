use Rattle.std.proofs.Common.{◌≡◌, ◌≤◌, length}
use Rattle.std.specs.List.{All}
use Rattle.match_script.specs.Text.{lines_of}
use Rattle.match_script.specs.Script.{body_of}
use Rattle.match_script.specs.Ranges.{LineFits}
use Rattle.match_script.proofs.Bodies.{with_front}
use Rattle.match_script.proofs.reader.body_of.Given as goal

abbrev pub invariant-loop-rest : goal.invariant-loop-rest
invariant-loop-rest l = record {
  so_far : body_of l.fn.most l.clients l.n 0 (lines_of l.text) ≡ with_front l.lines.items (body_of l.ticks l.clients l.n l.k (lines_of l.rest));
  few : l.k ≤ 100000;
  count : length l.lines.items ≡ l.k;
  fits : All (LineFits l.clients) l.lines.items;
}

abbrev pub decreases-loop-rest : goal.decreases-loop-rest
decreases-loop-rest l = length l.rest
