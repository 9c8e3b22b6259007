use Rattle.std.proofs.Common.{List, ℕ, length, sym, ap, ◌∙◌, subst, arith}
use Rattle.bit_stream.specs.Bits.{datagram}
use Rattle.tn_types.specs.Bytes.{AreBytes}
use Rattle.bit_stream.proofs.Datagrams.{AreBytes-push}
use Rattle.bit_stream.proofs.Writing.{finished, finished_even, length-datagram, byte_below}
use Rattle.bit_stream.proofs.writer.close.Goals as goal

pub returns-then-count-gt0 : goal.returns-then-count-gt0
returns-then-count-gt0 c =
    let d = c.drain-pending in
    let e = d.ensures in
    let fits = e.bytes (c.flush-pending.ensures.bytes c.requires.bytes) in
    let made = c.push.ensures.items ∙ sym (finished d.new.whole.items d.result.0 d.result.1 fits c.if-count-gt0.true e.few e.below) ∙ ap datagram (e.bits ∙ c.flush-pending.ensures.bits) in
    record {
      bytes = made;
      are_bytes = subst AreBytes (sym c.push.ensures.items) (AreBytes-push d.new.whole.items d.result.0 (byte_below d.result.0 d.result.1 e.few e.below) fits);
      len = ap (λ (bytes : List ℕ). length bytes) made ∙ length-datagram _;
    }

pub returns-else-count-gt0 : goal.returns-else-count-gt0
returns-else-count-gt0 c =
    let d = c.drain-pending in
    let e = d.ensures in
    let fits = e.bytes (c.flush-pending.ensures.bytes c.requires.bytes) in
    let made = sym (finished_even d.new.whole.items d.result.0 d.result.1 fits (omega arith)) ∙ ap datagram (e.bits ∙ c.flush-pending.ensures.bits) in
    record {
      bytes = made;
      are_bytes = fits;
      len = ap (λ (bytes : List ℕ). length bytes) made ∙ length-datagram _;
    }
