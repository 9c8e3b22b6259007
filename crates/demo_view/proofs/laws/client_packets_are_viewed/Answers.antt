use Rattle.demo_view.proofs.Alike.{views-with-client}
use Rattle.demo_view.proofs.laws.client_packets_are_viewed.Goals as goal

pub returns : goal.returns
returns c = views-with-client
