use Rattle.std.proofs.Common.{rules}
use Rattle.bit_stream.proofs.Reading.{word_bits}
use Rattle.bit_stream.proofs.reader.word_of.Goals as goal

pub returns : goal.returns
returns c = word_bits c.args.bytes.now c.from_le_bytes.result (search rules) c.fits-bytes c.from_le_bytes.ensures
