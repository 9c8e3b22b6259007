use Rattle.std.proofs.Common.{◌≡◌, ◌+◌, map, take}
use Rattle.own_lists.specs.Kept.{Kept, all_begin}
use Rattle.own_items.specs.Items.{show_of}
use Rattle.alone_server.specs.Periods.{Holds}
use Rattle.alone_server.proofs.periods.show_all.Given as goal

abbrev pub invariant-loop-show : goal.invariant-loop-show
invariant-loop-show l = record {
  count : l.n ≡ l.shows + l.show-index;
  holds : (k : Kept) → Holds (record { shows = l.shows; periods = l.fn.periods.items }) k
      → Holds (record { shows = l.n; periods = l.periods.items }) (all_begin (map show_of (take l.show-index l.begins)) k);
}
