use Rattle.std.proofs.Common.{◌≡◌, ◌≤◌, ◌+◌, ◌++◌, filter, length, take, vec_capacity}
use Rattle.client_scope.specs.Scans.{is_new}
use Rattle.client_scope.specs.Marks.{marked, begun}
use Rattle.client_scope.proofs.walks.begin.Given as goal

abbrev pub invariant-loop-s : goal.invariant-loop-s
invariant-loop-s l = record {
  shows : l.shows.items ≡ filter (is_new (marked l.marks)) (take l.s-index l.seen);
  kept : l.kept.items ≡ l.initial.kept.items ++ begun l.fn.count l.shows.items;
  few : length l.shows.items ≤ l.s-index;
  next : l.n ≡ l.fn.count + length l.shows.items;
  long : length l.kept.items ≡ length l.initial.kept.items + length l.shows.items;
  shows_room : vec_capacity l.shows ≡ vec_capacity l.initial.shows;
  kept_room : vec_capacity l.kept ≡ vec_capacity l.initial.kept;
}
