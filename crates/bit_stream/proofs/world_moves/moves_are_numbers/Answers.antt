use Rattle.bit_stream.proofs.MovesAsNumbers.{few_bits, back, there}
use Rattle.bit_stream.proofs.world_moves.moves_are_numbers.Goals as goal

pub returns : goal.returns
returns c = record { few = few_bits; back = back; there = there }
