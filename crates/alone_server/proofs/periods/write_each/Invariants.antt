use Rattle.std.proofs.Common.{ℕ, map, take}
use Rattle.own_lists.specs.Kept.{Kept, wrote_all}
use Rattle.own_items.specs.Items.{write_of}
use Rattle.alone_server.specs.Periods.{Holds}
use Rattle.alone_server.proofs.periods.write_each.Given as goal

abbrev pub invariant-loop-write : goal.invariant-loop-write
invariant-loop-write l = (shows : ℕ) (k : Kept) → Holds (record { shows = shows; periods = l.fn.periods }) k
    → Holds (record { shows = shows; periods = l.periods }) (wrote_all (map write_of (take l.write-index l.writes)) k)
