use Rattle.world_scope.proofs.Marks.{first_marks_are}
use Rattle.world_scope.proofs.word_set.first_marks.Goals as goal

pub returns : goal.returns
returns c = first_marks_are c.args.words c.requires
