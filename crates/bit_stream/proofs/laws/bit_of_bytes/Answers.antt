use Rattle.bit_stream.proofs.BitPlaces.{bit_of-bytes}
use Rattle.bit_stream.proofs.laws.bit_of_bytes.Goals as goal

pub returns : goal.returns
returns c = bit_of-bytes
