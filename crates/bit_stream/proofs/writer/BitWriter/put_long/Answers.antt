use Rattle.std.proofs.Common.{◌∙◌, sym, arith, length-append, append_assoc}
use Rattle.bit_stream.specs.Bits.{bits_of, number}
use Rattle.bit_stream.proofs.Numbers.{length-number}
use Rattle.bit_stream.proofs.Datagrams.{length-bits_of}
use Rattle.bit_stream.proofs.Writing.{length-written}
use Rattle.bit_stream.proofs.writer.BitWriter.put_long.Goals as goal

pub append-pending-requires-clause-room : goal.append-pending-requires-clause-room
append-pending-requires-clause-room c = let h = rw (← c.self.view_is) at c.requires.room in omega (arith, length-written c.self.inside, h)

pub invariant_of-self : goal.invariant_of-self
invariant_of-self c = let h = rw (← c.self.view_is) at c.requires.room in record {
  below = c.append-pending.ensures.below;
  few = c.append-pending.ensures.few;
  room = omega (arith, length-written c.self.inside, h);
  size = c.self.invariant.size;
  bytes = c.append-pending.ensures.bytes c.self.invariant.bytes;
}

pub returns-clause-bits : goal.returns-clause-bits
returns-clause-bits c =
    let s = c.self.inside in
    rw (← c.self.view_is) (c.append-pending.ensures.bits ∙ sym (append_assoc (bits_of s.whole.items) (number s.count s.pending) (number c.args.width c.args.value)))

pub returns-clause-len : goal.returns-clause-len
returns-clause-len c =
    let s = c.self.inside in
    rw (← c.self.view_is) (omega (arith, length-written s, length-append (bits_of c.append-pending.new.whole.items) (number c.append-pending.result.1 c.append-pending.result.0), length-bits_of c.append-pending.new.whole.items, length-number c.append-pending.result.1 c.append-pending.result.0))
