-- What a viewer has in common with the client whose datagrams it is given: fed with those that the client took, it has taken the
-- same packets. By the packets that it took alone a client shows what it shows, so both show the same.
use Rattle.std.specs.Prelude.{◌≡◌, ℕ, List, Ok}
use Rattle.quantised_fields.specs.declared.kind.Kind.{Kind}
use Rattle.wire_format.specs.declared.server.ServerPacket.{ServerPacket}
use Rattle.stream_manager.specs.declared.config.Config.{Config}
use Rattle.stream_manager.specs.Client.{ClientEvent, client_answer}
use Rattle.stream_manager.specs.Packets.{packets_at}
use Rattle.demo_view.specs.Viewing.{ViewTerms, view_of}

abbrev pub view_terms : Config → List Kind → ViewTerms
view_terms c kinds = record { client = c.client; version = c.version; kinds = kinds }

-- bytes that a client takes, a viewer of the packets that it took before takes, as the same packet
abbrev pub TakesWithClient : Config → List Kind → List ClientEvent → List ℕ → Type 0
TakesWithClient c kinds log bytes = (p : ServerPacket) → client_answer c kinds log bytes ≡ Ok p
    → view_of (view_terms c kinds) bytes (packets_at log) ≡ Ok p
