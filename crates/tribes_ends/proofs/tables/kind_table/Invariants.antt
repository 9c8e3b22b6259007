use Rattle.std.proofs.Common.{◌≡◌, ◌+◌, ◌++◌, length, drop}
use Rattle.std.specs.Prelude.{nat_lt, sum_by}
use Rattle.std.specs.List.{list_any}
use Rattle.tn_types.specs.declared.limits.TheConstants.{MAX_LISTED_FIELDS}
use Rattle.tribes_ends.specs.declared.tables.KindRow.{KindRow}
use Rattle.tribes_ends.specs.Making.{kinds_of}
use Rattle.tribes_ends.proofs.tables.kind_table.Given as goal

abbrev pub invariant-kinds : goal.invariant-kinds
invariant-kinds l = record {
  made : kinds_of l.kinds l.fn.fields ≡ l.list ++ kinds_of (drop l.kind-index l.kinds) l.rest;
  counted : length l.list ≡ l.kind-index;
  total : sum_by (λ (k : KindRow). k.fields) l.kinds + length l.rest ≡ length l.fn.fields + sum_by (λ (k : KindRow). k.fields) (drop l.kind-index l.kinds);
  long : list_any (λ (k : KindRow). nat_lt MAX_LISTED_FIELDS k.fields) l.kinds ≡ list_any (λ (k : KindRow). nat_lt MAX_LISTED_FIELDS k.fields) (drop l.kind-index l.kinds);
}
