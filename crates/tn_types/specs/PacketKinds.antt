-- What a packet is, as the test that definitions make: it is a ping, or has a body.
use Rattle.std.specs.Prelude.{Bool, true, false}
use Rattle.tn_types.specs.declared.choices.PacketKind.{PacketKind}
use Rattle.tn_types.specs.declared.choices.PacketKind.TheVariants.{Ping, Body}

abbrev pub is_ping : PacketKind → Bool
is_ping Ping = true
is_ping Body = false
