use Rattle.std.proofs.Common.{◌≡◌, ◌+◌, ◌*◌, ◌++◌, length}
use Rattle.bit_stream.specs.Bits.{bits_of}
use Rattle.bit_stream.proofs.writer.BitWriter.put_bytes.Given as goal

abbrev pub invariant-bytes : goal.invariant-bytes
invariant-bytes l = record {
  bits : l.self.bits ++ bits_of l.rest ≡ l.fn.self.bits ++ bits_of l.bytes;
  len : length l.self.bits + 8 * length l.rest ≡ length l.fn.self.bits + 8 * length l.bytes;
  size : l.self.size ≡ l.fn.self.size;
}

abbrev pub decreases-bytes : goal.decreases-bytes
decreases-bytes l = length l.rest
