use Rattle.std.proofs.Common.{◌%◌, ◌∙◌, arith}
use Rattle.bit_stream.proofs.Datagrams.{AreBytes-push}
use Rattle.bit_stream.proofs.Writing.{flushed, flushed_below}
use Rattle.bit_stream.proofs.writer.drain.Goals as goal

pub loop-count-preserved : goal.loop-count-preserved
loop-count-preserved c = record {
  bits = rw c.push.ensures.items (flushed c.loop-count.whole.items c.loop-count.pending c.loop-count.count c.loop-count-test.true ∙ c.loop-count.invariant.bits);
  below = flushed_below c.loop-count.pending c.loop-count.count c.loop-count-test.true c.loop-count.invariant.below;
  bytes = λ fits. rw c.push.ensures.items (AreBytes-push c.loop-count.whole.items (c.loop-count.pending % 256) (omega arith) (c.loop-count.invariant.bytes fits));
  few = omega arith;
  len = omega arith;
}
