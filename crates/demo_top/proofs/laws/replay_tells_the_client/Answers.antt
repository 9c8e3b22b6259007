use Rattle.demo_top.proofs.Client.{tells-the-client}
use Rattle.demo_top.proofs.laws.replay_tells_the_client.Goals as goal

pub returns : goal.returns
returns c = tells-the-client
