use Rattle.tn_types.proofs.ListWords as laws
use Rattle.tn_types.proofs.words.first_fault_is_first.Goals as goal

pub returns : goal.returns
returns g c = λ fault before xs. laws.first_one fault before xs
