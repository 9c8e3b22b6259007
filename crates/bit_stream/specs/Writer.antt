-- What a writer's fields mean: whole bytes, and then fewer than 64 bits as a number.
use Rattle.std.specs.Prelude.{◌+◌, ◌*◌, ◌^◌, ◌<◌, ◌≤◌, ◌++◌, length}
use Rattle.bit_stream.specs.Bits.{Written, bits_of, number}
use Rattle.tn_types.specs.declared.limits.TheConstants.{MAX_DATAGRAM_BYTES, MAX_WORD_BITS}
use Rattle.tn_types.specs.Bytes.{AreBytes}
use Rattle.bit_stream.specs.declared.writer.BitWriter.TheInside.{Inside}

abbrev pub written : Inside → Written
written w = record { bits = bits_of w.whole.items ++ number w.count w.pending; size = w.size; whole = w.whole.items }

pub record IsWriter (w : Inside) : Type 0 where
  pub below : w.pending < 2 ^ w.count
  pub few : w.count < 2 * MAX_WORD_BITS
  pub room : 8 * length w.whole.items + w.count ≤ 8 * w.size
  pub size : w.size ≤ MAX_DATAGRAM_BYTES
  pub bytes : AreBytes w.whole.items
