use Rattle.std.proofs.Common.{arith}
use Rattle.bit_stream.proofs.Datagrams.{bits_of-datagram}
use Rattle.bit_stream.proofs.laws.bits_come_back.Goals as goal

pub returns : goal.returns
returns c = λ bits. (bits_of-datagram bits, omega arith)
