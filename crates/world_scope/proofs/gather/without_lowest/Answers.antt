use Rattle.world_scope.proofs.Rests.{cut}
use Rattle.world_scope.proofs.gather.without_lowest.Goals as goal

pub returns-clause-bits : goal.returns-clause-bits
returns-clause-bits c = λ k. cut c.args.word k c.requires c.ranges.word.fits
