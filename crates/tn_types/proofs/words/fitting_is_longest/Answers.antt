use Rattle.tn_types.proofs.ListWords as laws
use Rattle.tn_types.proofs.words.fitting_is_longest.Goals as goal

pub returns : goal.returns
returns g c = λ size room xs. laws.longest size room xs
