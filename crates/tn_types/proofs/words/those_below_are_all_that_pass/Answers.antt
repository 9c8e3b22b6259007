use Rattle.tn_types.proofs.ListWords as laws
use Rattle.tn_types.proofs.words.those_below_are_all_that_pass.Goals as goal

pub returns : goal.returns
returns c = λ f n. laws.those_that_pass f n
