use Rattle.std.proofs.Common.{◌∙◌, arith, length-set}
use Rattle.client_scope.proofs.Apart.{nobody}
use Rattle.client_scope.proofs.Marking.{one_more_mark}
use Rattle.client_scope.proofs.marks.mark_all.Goals as goal

pub loop-s-preserved : goal.loop-s-preserved
loop-s-preserved c =
    record {
      room = length-set c.loop-s.marks _ _ ∙ c.loop-s.invariant.room;
      marks = one_more_mark c.args.seen.now c.loop-s.marks c.loop-s.s-index c.requires.rising c.loop-s-test.true (omega (arith, c.loop-s.invariant.room, c.requires.there c.loop-s.s-index nobody c.loop-s-test.true)) c.loop-s.invariant.marks;
    }
