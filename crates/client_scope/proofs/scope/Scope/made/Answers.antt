use Rattle.std.proofs.Common.{refl}
use Rattle.client_scope.proofs.Marking.{none_marked}
use Rattle.client_scope.proofs.scope.Scope.made.Goals as goal

pub returns : goal.returns
returns c = record {
  count = refl;
  shown = c.new.ensures.items;
  hides = c.new-2.ensures.items;
  nears = c.new-3.ensures.items;
  shows = c.new-4.ensures.items;
  marks = none_marked c.in_ok-vec.field-0.items 1024 (c.in_ok-vec.ensures.items_if_clones_equal (λ y h. h));
}
