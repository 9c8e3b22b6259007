use Rattle.std.proofs.Common.{◌∙◌, ◌<◌, length, arith}
use Rattle.bit_stream.proofs.Reading.{filled_from}
use Rattle.bit_stream.proofs.reader.fill_by_bytes.Goals as goal

pub loop-count-preserved : goal.loop-count-preserved
loop-count-preserved c =
    let s = c.loop-count in
    let some : 0 < length s.rest.now = omega arith in
    record {
      bits = filled_from s.pending s.count c.from.result c.joined-pending.result s.rest.now c.split_at.result.0.now c.split_at.result.1.now s.invariant.below some c.split_at.ensures.front c.split_at.ensures.back c.from.ensures c.joined-pending.ensures.bits ∙ s.invariant.bits;
      below = c.joined-pending.ensures.below;
      few = omega arith;
      len = omega arith;
    }
