use Rattle.std.proofs.Common.{◌++◌, ◌∙◌, sym}
use Rattle.std.proofs.lemmas.Bool.{eqb-true}
use Rattle.bit_stream.specs.Bits.{bits_of}
use Rattle.bit_stream.proofs.Writing.{all_put}
use Rattle.bit_stream.proofs.writer.BitWriter.put_bytes.Goals as goal

pub returns-clause-bits : goal.returns-clause-bits
returns-clause-bits c =
    all_put c.bytes.self.bits (c.args.self.now.bits ++ bits_of c.args.bytes.now) c.bytes.rest.now (eqb-true _ _ (sym c.is_empty.ensures ∙ c.bytes-test.false)) c.bytes.invariant.bits
