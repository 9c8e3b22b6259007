use Rattle.greeting.proofs.Reading.{answer_right}
use Rattle.greeting.proofs.laws.answer_is_right.Goals as goal

pub returns : goal.returns
returns c d a nonce number token nonce_is number_is own few = answer_right d a nonce number token nonce_is number_is own few
