use Rattle.std.proofs.Common.{◌≡◌, length, take}
use Rattle.client_scope.specs.Marks.{AreOf}
use Rattle.client_scope.proofs.marks.mark_all.Given as goal

abbrev pub invariant-loop-s : goal.invariant-loop-s
invariant-loop-s l = record {
  room : length l.marks ≡ 1024;
  marks : AreOf (take l.s-index l.seen) l.marks;
}
