use Rattle.greeting.proofs.Reading.{challenge_taken}
use Rattle.greeting.proofs.laws.challenge_is_taken.Goals as goal

pub returns : goal.returns
returns c k number nonce_is number_is asking = challenge_taken k number nonce_is number_is asking
