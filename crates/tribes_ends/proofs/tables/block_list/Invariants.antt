use Rattle.std.proofs.Common.{◌≡◌, ◌+◌, ◌++◌, true, length, drop}
use Rattle.std.specs.Prelude.{nat_lt, sum}
use Rattle.std.specs.List.{list_any}
use Rattle.tn_types.specs.declared.limits.TheConstants.{MAX_BLOCK_BYTES}
use Rattle.tribes_ends.specs.Making.{blocks_of}
use Rattle.tribes_ends.proofs.tables.block_list.Given as goal

abbrev pub invariant-lengths : goal.invariant-lengths
invariant-lengths l = record {
  blocks : l.room ≡ true → blocks_of l.fn.bytes l.lengths ≡ l.list.items ++ blocks_of l.rest (drop l.number-index l.lengths);
  counted : l.room ≡ true → length l.list.items ≡ l.number-index;
  total : sum l.lengths + length l.rest ≡ length l.fn.bytes + sum (drop l.number-index l.lengths);
  long : list_any (nat_lt MAX_BLOCK_BYTES) l.lengths ≡ list_any (nat_lt MAX_BLOCK_BYTES) (drop l.number-index l.lengths);
}
