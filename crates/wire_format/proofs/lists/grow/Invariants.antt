use Rattle.std.proofs.Common.{◌-◌, ◌≤◌, length}
use Rattle.wire_format.proofs.lists.grow.Given as goal

abbrev pub invariant-places : goal.invariant-places
invariant-places g l = record {
  kept : length l.fn.places.items ≤ length l.places.items;
  few : length l.places.items ≤ g.row.N;
}

abbrev pub decreases-places : goal.decreases-places
decreases-places g l = l.count - length l.places.items
