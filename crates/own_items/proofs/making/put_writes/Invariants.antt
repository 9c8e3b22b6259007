use Rattle.std.proofs.Common.{◌≡◌, ◌++◌, map, take}
use Rattle.std.specs.List.{filter_map}
use Rattle.own_lists.specs.Past as past
use Rattle.own_items.specs.Items.{write_of}
use Rattle.own_items.proofs.making.put_writes.Given as goal

abbrev pub invariant-loop-w : goal.invariant-loop-w
invariant-loop-w l = map write_of l.out.items ≡ map write_of l.fn.out.items ++ filter_map (past.write_of l.period) (take l.w-index l.writes)
