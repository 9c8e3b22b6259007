use Rattle.std.proofs.Common.{◌≡◌, map, length, take}
use Rattle.tribes_ends.specs.Making.{field_of}
use Rattle.tribes_ends.proofs.tables.field_list.Given as goal

abbrev pub invariant-rows : goal.invariant-rows
invariant-rows l = record {
  listed : l.list ≡ map field_of (take l.row-index l.rows);
  counted : length l.list ≡ l.row-index;
}
