-- A connection under a key. Any datagrams come to both ends, from whomever; an end is handed those that carry the tag of the other end, without
-- the tag. The one premise about cryptography is that such a datagram is one of the other end's (`IsMadeBy`): nobody else finds a right tag.
use Rattle.std.specs.Prelude.{◌≡◌, ℕ, List, [], ◌∷◌, take, slice_get, Option, Some, None, Result, Ok, Err}
use Rattle.std.specs.List.{AllByRecursion}
use Rattle.datagram_tags.specs.declared.keyed_end.TagFault.{TagFault}
use Rattle.datagram_tags.specs.Tagging.{KeyedState, tagged, Verifies}
use Rattle.datagram_tags.specs.Laws.{AreEnds}
use Rattle.pair_core.specs.stream_manager.Limits.{Terms}
use Rattle.pair_core.specs.stream_manager.Server.{server_datagrams}
use Rattle.pair_core.specs.stream_manager.Client.{client_datagrams}
use Rattle.pair_core.specs.History.{PairStep, History, history, happens, at_server, at_client, server_gets, client_gets}
use Rattle.pair_core.specs.Conditions.{StepFits, IsMetAt, AreMet, IsHonestStep, IsHonest}

pub data KeyedStep : Type 0 where
  Does : (step : PairStep) → KeyedStep  -- what an end does, or a datagram that the network brings of those that were made
  ToServer : (datagram : List ℕ) → (room : ℕ) → KeyedStep  -- any datagram comes to the server's end, where so many moves have a place
  ToClient : (datagram : List ℕ) → KeyedStep  -- any datagram comes to the client's end

-- what an end is handed of a datagram
abbrev pub handed : Result ℕ TagFault → List ℕ → Option (List ℕ)
handed (Ok count) datagram = Some (take count datagram)
handed (Err fault) datagram = None

-- if the datagram carries a right tag of an end, this one made it
abbrev pub IsMadeBy : KeyedState → ℕ → List ℕ → List (List ℕ) → Type 0
IsMadeBy end number datagram made =
    (bytes : List ℕ) → datagram ≡ tagged end end.side number bytes → (k : ℕ) × (slice_get made k ≡ Some bytes)

-- this has happened after these steps, the newest first, with ends under a key and tags under a number
abbrev pub HasHappened : Terms → KeyedState → KeyedState → ℕ → List KeyedStep → History → Type 0
HasHappened t client server number [] h = h ≡ history t []
HasHappened t client server number (Does step ∷ run) h =
    (before : History) × HasHappened t client server number run before × IsHonestStep step × StepFits step × IsMetAt t before.server step
    × (h ≡ happens t step before)
HasHappened t client server number (ToServer datagram room ∷ run) h =
    (before : History) × (answer : Result ℕ TagFault) × HasHappened t client server number run before × Verifies server number datagram answer
    × IsMadeBy client number datagram (client_datagrams t.config before.client)
    × (h ≡ at_server before (server_gets t.config room (handed answer datagram) before.server))
HasHappened t client server number (ToClient datagram ∷ run) h =
    (before : History) × (answer : Result ℕ TagFault) × HasHappened t client server number run before × Verifies client number datagram answer
    × IsMadeBy server number datagram (server_datagrams t before.server)
    × (h ≡ at_client before (client_gets t (handed answer datagram) before.client))

-- honest steps do just this: none of them brings raw bytes
abbrev pub IsAsHonest : Terms → History → Type 0
IsAsHonest t h =
    (steps : List PairStep) × IsHonest steps × AllByRecursion StepFits steps × AreMet t steps × (h ≡ history t steps)

abbrev pub NothingIsRaw : Type 0
NothingIsRaw = (t : Terms) (client server : KeyedState) (number : ℕ) (run : List KeyedStep) (h : History) → AreEnds client server
    → HasHappened t client server number run h → IsAsHonest t h
