-- The client that a line of a body names: all but a tick and the line that tells the world name one.
use Rattle.std.specs.Prelude.{ℕ, Option, Some, None}
use Rattle.match_script.specs.declared.types.BodyLine.{BodyLine}
use Rattle.match_script.specs.declared.types.BodyLine.TheVariants.{Tick, Scan, Post, ClientPost, Pack, ClientPack, Down, Up, Raw, Move, Show, World}

abbrev pub client_named : BodyLine → Option ℕ
client_named Tick = None
client_named (Scan c) = Some c
client_named (Post c class payload) = Some c
client_named (ClientPost c class payload) = Some c
client_named (Pack c) = Some c
client_named (ClientPack c) = Some c
client_named (Down c k) = Some c
client_named (Up c k) = Some c
client_named (Raw c bytes) = Some c
client_named (Move c m) = Some c
client_named (Show c) = Some c
client_named World = None
