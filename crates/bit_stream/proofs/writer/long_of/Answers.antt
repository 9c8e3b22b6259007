use Rattle.std.proofs.Common.{rules}
use Rattle.bit_stream.proofs.Writing.{long_bits}
use Rattle.bit_stream.proofs.writer.long_of.Goals as goal

pub returns : goal.returns
returns c = long_bits c.args.bytes.now c.from_le_bytes.result (search rules) c.fits-bytes c.from_le_bytes.ensures
