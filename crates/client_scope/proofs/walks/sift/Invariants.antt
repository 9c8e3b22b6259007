use Rattle.std.proofs.Common.{◌≡◌, ◌≤◌, filter, length, take, vec_capacity}
use Rattle.client_scope.specs.Marks.{marked, stays}
use Rattle.client_scope.proofs.walks.sift.Given as goal

abbrev pub invariant-loop-p : goal.invariant-loop-p
invariant-loop-p l = record {
  kept : l.kept.items ≡ filter (stays (marked l.marks)) (take l.p-index l.shown);
  few : length l.kept.items ≤ l.p-index;
  room : vec_capacity l.kept ≡ vec_capacity l.fn.kept;
}
