use Rattle.std.proofs.Common.{ap, ◌∙◌, lit<, arith}
use Rattle.std.proofs.lemmas.List.{append-nil}
use Rattle.bit_stream.specs.Bits.{Written, number, bits_of, datagram}
use Rattle.bit_stream.proofs.Writing.{length-written}
use Rattle.bit_stream.proofs.writer.BitWriter.end.Goals as goal

pub invariant_of-self : goal.invariant_of-self
invariant_of-self c = record {
  below = lit< tt;
  few = lit< tt;
  room = omega (arith, c.close.ensures.len, length-written c.self.inside, c.self.invariant.room);
  size = c.self.invariant.size;
  bytes = c.close.ensures.are_bytes;
}

pub returns-clause-few : goal.returns-clause-few
returns-clause-few c = omega (arith, c.close.ensures.len, length-written c.self.inside, c.self.invariant.room)

pub returns-clause-bits : goal.returns-clause-bits
unfolding number
returns-clause-bits c =
    append-nil (bits_of c.close.new.whole.items) ∙ ap bits_of (c.close.ensures.bytes ∙ ap (λ (w : Written). datagram w.bits) c.self.view_is)
