use Rattle.std.proofs.Common.{◌≡◌, map, take}
use Rattle.own_lists.specs.Past.{own_show}
use Rattle.own_items.specs.Items.{show_of}
use Rattle.own_items.proofs.making.shows_of.Given as goal

abbrev pub invariant-loop-s : goal.invariant-loop-s
invariant-loop-s l = map show_of l.shows.items ≡ map (own_show l.world l.client) (take l.s-index l.seen)
