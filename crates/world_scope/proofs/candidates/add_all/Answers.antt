use Rattle.world_scope.proofs.Sets.{all_found}
use Rattle.world_scope.proofs.candidates.add_all.Goals as goal

pub returns : goal.returns
returns c = λ p q os those is. all_found p q os c.args.found.now c.args.words.now c.put_all.new.self c.put_all.ensures those is
