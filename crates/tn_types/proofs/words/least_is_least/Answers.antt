use Rattle.tn_types.proofs.ListWords as laws
use Rattle.tn_types.proofs.words.least_is_least.Goals as goal

pub returns : goal.returns
returns c = λ f n. laws.least_one f n
