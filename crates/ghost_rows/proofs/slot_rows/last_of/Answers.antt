use Rattle.ghost_rows.proofs.RowSteps.{last_here, last_not}
use Rattle.ghost_rows.proofs.slot_rows.last_of.Goals as goal

pub returns-then-turn-seq : goal.returns-then-turn-seq
returns-then-turn-seq c = last_here c.args.turn c.args.last c.args.seq c.args.carriers.now c.kept_of.result c.kept_of.ensures c.ranges.last.fits c.if-turn-seq.true

pub returns-else-turn-seq : goal.returns-else-turn-seq
returns-else-turn-seq c = last_not c.args.turn c.args.last c.args.seq c.args.carriers.now c.kept_of.result c.kept_of.ensures c.ranges.last.fits c.if-turn-seq.false
