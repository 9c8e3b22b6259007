use Rattle.stream_manager.proofs.Packets.{shows-alike}
use Rattle.stream_manager.proofs.laws.packets_show_what_a_client_shows.Goals as goal

pub returns : goal.returns
returns c = shows-alike
