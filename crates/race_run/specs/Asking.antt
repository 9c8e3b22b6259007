-- What a line of a script asks of a client's connection: of its packer a pack, and of its net the client's own lines.
use Rattle.std.specs.Prelude.{◌≡◌, refl, ℕ, ◌==◌, Bool, false, List, [], ◌∷◌, Option, Some, None, if◌then◌else◌, EachIndex, slice_index}
use Rattle.std.specs.List.{filter_map}
use Rattle.bit_stream.specs.WorldMoves.{bits_of}
use Rattle.match_script.specs.declared.types.BodyLine.{BodyLine}
use Rattle.match_script.specs.declared.types.BodyLine.TheVariants as script
use Rattle.connection_lock.specs.declared.net_line.NetLine.{NetLine}
use Rattle.connection_lock.specs.declared.net_line.NetLine.TheVariants as net

abbrev pub is_pack_of : ℕ → BodyLine → Bool
is_pack_of client (script.Pack named) = named == client
is_pack_of client line = false

-- where the line names the client
abbrev pub asked_of : ℕ → ℕ → NetLine → Option NetLine
asked_of client named line = if named == client then Some line else None

abbrev pub net_line : ℕ → BodyLine → Option NetLine
net_line client (script.ClientPost named class payload) = asked_of client named (net.ClientPost class payload)
net_line client (script.ClientPack named) = asked_of client named net.ClientPack
net_line client (script.Down named k) = asked_of client named (net.Down k)
net_line client (script.Up named k) = asked_of client named (net.Up k)
net_line client (script.Move named m) = asked_of client named (net.Move (bits_of m))
net_line client (script.Raw named bytes) = asked_of client named (net.Raw bytes)
net_line client line = None

-- what lines ask of the client's net, in their order
abbrev pub net_lines : ℕ → List BodyLine → List NetLine
net_lines client lines = filter_map (net_line client) lines

-- the connection of each client stands at the place of its number
abbrev pub AreNumbered : List ℕ → Type 0
AreNumbered pairs = EachIndex pairs (λ i. slice_index pairs i ≡ i)

-- ---- an example: of these three lines the first and the last are those of client 1

of_client_1 : net_lines 1 (script.Down 1 7 ∷ script.Down 0 2 ∷ script.ClientPack 1 ∷ []) ≡ net.Down 7 ∷ net.ClientPack ∷ []
of_client_1 = refl
