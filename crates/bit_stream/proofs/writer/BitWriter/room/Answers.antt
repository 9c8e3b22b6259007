use Rattle.std.proofs.Common.{arith}
use Rattle.bit_stream.proofs.Writing.{length-written}
use Rattle.bit_stream.proofs.writer.BitWriter.room.Goals as goal

pub returns : goal.returns
returns c = rw (← c.self.view_is) (omega (arith, length-written c.self.inside))
