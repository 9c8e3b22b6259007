use Rattle.std.proofs.Common.{◌≡◌, map, take}
use Rattle.own_lists.specs.Past.{own_writes}
use Rattle.own_items.specs.Items.{write_of}
use Rattle.own_items.proofs.making.writes_of.Given as goal

abbrev pub invariant-loop-period : goal.invariant-loop-period
invariant-loop-period l = map write_of l.all.items ≡ own_writes l.world (take l.period-index l.periods)
