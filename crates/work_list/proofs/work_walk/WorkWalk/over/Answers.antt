use Rattle.work_list.proofs.ToCome.{all_to_come}
use Rattle.work_list.proofs.work_walk.WorkWalk.over.Goals as goal

pub returns : goal.returns
returns c = all_to_come c.args.words.now
