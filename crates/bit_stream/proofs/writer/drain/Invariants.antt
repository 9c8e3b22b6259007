use Rattle.std.proofs.Common.{◌+◌, ◌≡◌, ◌*◌, ◌^◌, ◌<◌, ◌++◌, length}
use Rattle.bit_stream.specs.Bits.{number, bits_of}
use Rattle.tn_types.specs.Bytes.{AreBytes}
use Rattle.tn_types.specs.declared.limits.TheConstants.{MAX_WORD_BITS}
use Rattle.bit_stream.proofs.writer.drain.Given as goal

abbrev pub invariant-loop-count : goal.invariant-loop-count
invariant-loop-count l = record {
  bits : bits_of l.whole.items ++ number l.count l.pending ≡ bits_of l.fn.whole.items ++ number l.fn.count l.fn.pending;
  below : l.pending < 2 ^ l.count;
  bytes : AreBytes l.fn.whole.items → AreBytes l.whole.items;
  few : l.count < MAX_WORD_BITS;
  len : 8 * length l.whole.items + l.count ≡ 8 * length l.fn.whole.items + l.fn.count;
}

abbrev pub decreases-loop-count : goal.decreases-loop-count
decreases-loop-count l = l.count
