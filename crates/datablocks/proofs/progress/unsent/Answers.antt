use Rattle.datablocks.proofs.Progressing.{due_everywhere}
use Rattle.datablocks.proofs.progress.unsent.Goals as goal

pub returns-clause-due : goal.returns-clause-due
returns-clause-due c = due_everywhere 64
