use Rattle.std.proofs.Common.{◌+◌, ◌-◌, ◌≡◌, ◌*◌, ◌^◌, ◌<◌, ◌++◌, length}
use Rattle.bit_stream.specs.Bits.{number, bits_of}
use Rattle.bit_stream.proofs.reader.fill_by_bytes.Given as goal

abbrev pub invariant-loop-count : goal.invariant-loop-count
invariant-loop-count l = record {
  bits : number l.count l.pending ++ bits_of l.rest ≡ number l.fn.count l.fn.pending ++ bits_of l.fn.rest;
  below : l.pending < 2 ^ l.count;
  few : l.count < l.width + 8;
  len : l.count + 8 * length l.rest ≡ l.fn.count + 8 * length l.fn.rest;
}

abbrev pub decreases-loop-count : goal.decreases-loop-count
decreases-loop-count l = l.width - l.count
