use Rattle.std.proofs.Common.{◌≡◌, ◌+◌, min, length}
use Rattle.world_cells.proofs.LineBits.{IsPutIn}
use Rattle.world_cells.proofs.lines.Lines.shift.Given as goal

abbrev pub invariant-loop-line : goal.invariant-loop-line
invariant-loop-line l = record {
  many : length l.self-inside.words.items ≡ 272;
  put : IsPutIn (min l.from l.to) (l.line + 1) l.number l.to l.fn.self l.self-inside.words.items;
}
