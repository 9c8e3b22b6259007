use Rattle.std.proofs.Common.{◌≡◌, map, take}
use Rattle.tribes_ends.specs.Lists.{change_of}
use Rattle.tribes_ends.proofs.rows.list_changes.Given as goal

abbrev pub invariant-items : goal.invariant-items
invariant-items l = record {
  counted : l.count ≡ l.item-index;
  listed : take l.item-index l.place ≡ map change_of (take l.item-index l.items);
}
