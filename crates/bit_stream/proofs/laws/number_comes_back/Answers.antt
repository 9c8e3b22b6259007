use Rattle.bit_stream.proofs.Reading.{number_at-again}
use Rattle.bit_stream.proofs.laws.number_comes_back.Goals as goal

pub returns : goal.returns
returns c = number_at-again
