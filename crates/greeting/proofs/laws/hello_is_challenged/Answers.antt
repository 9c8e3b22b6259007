use Rattle.greeting.proofs.Reading.{hello_challenged}
use Rattle.greeting.proofs.laws.hello_is_challenged.Goals as goal

pub returns : goal.returns
returns c d a nonce heard long h = hello_challenged d a nonce heard long h
