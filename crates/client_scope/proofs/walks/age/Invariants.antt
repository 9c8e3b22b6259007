use Rattle.std.proofs.Common.{◌≡◌, ◌≤◌, length, map, take, drop, vec_capacity}
use Rattle.std.specs.List.{filter_map}
use Rattle.client_scope.specs.Changes.{hidden, moved}
use Rattle.client_scope.specs.Marks.{marked, aged}
use Rattle.client_scope.proofs.walks.age.Given as goal

abbrev pub invariant-loop-i : goal.invariant-loop-i
invariant-loop-i l = record {
  long : length l.shown ≡ length l.fn.shown;
  aged : take l.i l.shown ≡ map (aged (marked l.marks)) (take l.i l.fn.shown);
  rest : drop l.i l.shown ≡ drop l.i l.fn.shown;
  hides : l.hides.items ≡ filter_map (hidden (marked l.marks)) (take l.i l.fn.shown);
  nears : l.nears.items ≡ filter_map (moved (marked l.marks)) (take l.i l.fn.shown);
  hides_few : length l.hides.items ≤ l.i;
  nears_few : length l.nears.items ≤ l.i;
  hides_room : vec_capacity l.hides ≡ vec_capacity l.fn.hides;
  nears_room : vec_capacity l.nears ≡ vec_capacity l.fn.nears;
}
