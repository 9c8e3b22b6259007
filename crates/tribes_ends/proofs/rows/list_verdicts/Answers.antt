use Rattle.std.proofs.Common.{map, arith}
use Rattle.tribes_ends.specs.Lists.{judged_of}
use Rattle.tribes_ends.proofs.Listing.{one-more}
use Rattle.tribes_ends.proofs.rows.list_verdicts.Goals as goal

pub verdicts-preserved : goal.verdicts-preserved
verdicts-preserved c =
    one-more (map judged_of c.args.verdicts.now) c.verdicts.place c.verdicts.at c.judged_at.result (omega (arith, c.requires, c.count-count.ensures.few, c.verdicts-test.true, c.verdicts.auto.place)) c.judged_at.ensures c.verdicts.invariant
