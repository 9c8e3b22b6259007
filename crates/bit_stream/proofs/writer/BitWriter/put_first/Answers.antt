use Rattle.std.proofs.Common.{◌∙◌, ap}
use Rattle.bit_stream.specs.Bits.{number, bits_of}
use Rattle.bit_stream.proofs.Writing.{first_put, first_byte}
use Rattle.bit_stream.proofs.writer.BitWriter.put_first.Goals as goal

pub returns-in-Some-clause-bits : goal.returns-in-Some-clause-bits
returns-in-Some-clause-bits c =
    let f = c.in-Some in
    first_put c.args.self.now.bits c.put_long.new.self.bits (number 64 c.long_of.result) c.args.bytes.now f.others.now 8 c.put_long.ensures.bits
    (c.long_of.ensures ∙ ap bits_of f.ensures.cases.0) f.ensures.cases.1

pub returns-in-None-clause-bits : goal.returns-in-None-clause-bits
returns-in-None-clause-bits c =
    first_put c.args.self.now.bits c.put.new.self.bits (number 8 c.from.result) c.args.bytes.now c.split_at.result.1.now 1 c.put.ensures.bits
    (first_byte c.args.bytes.now c.split_at.result.0.now c.from.result c.requires.some c.split_at.ensures.front c.from.ensures) c.split_at.ensures.back
