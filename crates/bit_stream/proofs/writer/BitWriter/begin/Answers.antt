use Rattle.std.proofs.Common.{refl}
use Rattle.bit_stream.specs.Bits.{number, bits_of}
use Rattle.bit_stream.proofs.writer.BitWriter.begin.Goals as goal

pub returns-clause-bits : goal.returns-clause-bits
unfolding number bits_of
returns-clause-bits c = rw c.clear.ensures refl
