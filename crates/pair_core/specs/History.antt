-- What happens to a pair step by step, the newest step first: what the server is told of objects in scope, what is posted,
-- sampled and packed at each end, and what the network does; and what has happened at both ends after them. The network
-- brings only datagrams that were sent, named by their place: any number of times, in any order, as late as it likes. A raw
-- datagram is any bytes that come to the server's end.
use Rattle.std.specs.Prelude.{◌≡◌, refl, ℕ, Bool, false, List, [], ◌∷◌, if◌then◌else◌, slice_get, Option, Some, None}
use Rattle.std.specs.Result.{is_ok}
use Rattle.tn_types.specs.declared.choices.Class.{Class}
use Rattle.tn_types.specs.declared.choices.Class.TheVariants.{Guaranteed, Loose}
use Rattle.tn_types.specs.declared.choices.Drain.{Drain}
use Rattle.tn_types.specs.declared.choices.Read.{Read}
use Rattle.tn_types.specs.declared.moves.MoveBits.{MoveBits}
use Rattle.conn_packing.specs.stream_manager.declared.config.Config.{Config}
use Rattle.conn_packing.specs.stream_manager.Limits.{Terms}
use Rattle.conn_packing.specs.stream_manager.End.{with_event}
use Rattle.conn_packing.specs.stream_manager.Server as server
use Rattle.conn_packing.specs.stream_manager.Server.{ServerEvent, posted_at_server, server_datagrams}
use Rattle.conn_packing.specs.stream_manager.Client as client
use Rattle.conn_packing.specs.stream_manager.Client.{ClientEvent, posted_at_client, sampled_answer, client_datagrams}
use Rattle.conn_packing.specs.Packs.{server_packs}

pub data PairStep : Type 0 where
  Show : (kind block level : ℕ) (control : Bool) → PairStep  -- a period of an object begins at the server
  Hide : (n : ℕ) → PairStep  -- it ends
  Near : (n level : ℕ) → PairStep  -- its object is at another level of distance
  Post : (class : Class) (payload : List ℕ) → PairStep  -- the server posts an event
  ClientPost : (class : Class) (payload : List ℕ) → PairStep  -- the client posts one
  Sample : MoveBits → PairStep  -- the client takes up a move of its player
  Pack : (drains : List Drain) (reads : List Read) → PairStep  -- the server absorbs what was drained and makes a datagram
  ClientPack : PairStep  -- the client makes one
  Down : (k : ℕ) → PairStep  -- the client gets the server's datagram of this place
  Up : (k room : ℕ) → PairStep  -- the server gets the client's, where so many moves have a place
  Raw : (bytes : List ℕ) (room : ℕ) → PairStep  -- the server gets bytes that nobody need have sent

pub record History : Type 0 where
  pub server : List ServerEvent
  pub client : List ClientEvent

-- a post, unless it is refused
abbrev pub server_posts : Config → Class → List ℕ → List ServerEvent → List ServerEvent
server_posts c Guaranteed v log = if is_ok (posted_at_server c log) then server.Posted Guaranteed v ∷ log else log
server_posts c Loose v log = server.Posted Loose v ∷ log

abbrev pub client_posts : Config → Class → List ℕ → List ClientEvent → List ClientEvent
client_posts c Guaranteed v log = if is_ok (posted_at_client c log) then client.Posted Guaranteed v ∷ log else log
client_posts c Loose v log = client.Posted Loose v ∷ log

-- a move, unless it is refused
abbrev pub client_samples : Config → MoveBits → List ClientEvent → List ClientEvent
client_samples c m log = if is_ok (sampled_answer c m log) then client.Sampled m ∷ log else log

-- an arrival, unless nothing of that place was sent or it is refused
abbrev pub client_gets : Terms → Option (List ℕ) → List ClientEvent → List ClientEvent
client_gets t None log = log
client_gets t (Some bytes) log = client.arriving t.config t.kinds bytes log

abbrev pub server_gets : Config → ℕ → Option (List ℕ) → List ServerEvent → List ServerEvent
server_gets c room None log = log
server_gets c room (Some bytes) log = server.arriving c room bytes log

abbrev pub at_server : History → List ServerEvent → History
at_server h log = record { server = log; client = h.client }

abbrev pub at_client : History → List ClientEvent → History
at_client h log = record { server = h.server; client = log }

abbrev pub happens : Terms → PairStep → History → History
happens t (Show kind block level control) h = at_server h (server.Scoped (server.Show kind block level control) ∷ h.server)
happens t (Hide n) h = at_server h (server.Scoped (server.Hide n) ∷ h.server)
happens t (Near n level) h = at_server h (server.Scoped (server.Near n level) ∷ h.server)
happens t (Post class v) h = at_server h (server_posts t.config class v h.server)
happens t (ClientPost class v) h = at_client h (client_posts t.config class v h.client)
happens t (Sample m) h = at_client h (client_samples t.config m h.client)
happens t (Pack drains reads) h = at_server h (server_packs t drains reads h.server)
happens t ClientPack h = at_client h (with_event (client.packing t.config h.client) h.client)
happens t (Down k) h = at_client h (client_gets t (slice_get (server_datagrams t h.server) k) h.client)
happens t (Up k room) h = at_server h (server_gets t.config room (slice_get (client_datagrams t.config h.client) k) h.server)
happens t (Raw bytes room) h = at_server h (server_gets t.config room (Some bytes) h.server)

-- what has happened after the steps
abbrev pub history : Terms → List PairStep → History
history t [] = record { server = []; client = [] }
history t (step ∷ steps) = happens t step (history t steps)

-- ---- examples: an object of kind 2 is shown, brought nearer and hidden

unlimited : Terms
unlimited = record { config = record { client = 0; life = 100; size = 128; version = 1; move_bits = 10 }; kinds = []; blocks = [] }

shown_and_hidden : history unlimited (Hide 0 ∷ Near 0 1 ∷ Show 2 0 3 false ∷ [])
    ≡ record {
      server = server.Scoped (server.Hide 0) ∷ server.Scoped (server.Near 0 1) ∷ server.Scoped (server.Show 2 0 3 false) ∷ [];
      client = [];
    }
unfolding unlimited
shown_and_hidden = refl
