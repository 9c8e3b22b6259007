use Rattle.wire_format.proofs.OldMoves.{spelled, read_so}
use Rattle.wire_format.proofs.laws.old_moves_stand.Goals as goal

pub returns : goal.returns
returns c = record { spelled = spelled; read = read_so }
