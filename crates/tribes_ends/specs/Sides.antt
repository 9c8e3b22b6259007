-- What a call of a link does to the end that it has, and what it tells of it: at the server's end alone, at the client's alone, or
-- at either. Each case is the call of stream_manager or conn_packing, in their words.
use Rattle.std.specs.Prelude.{◌≡◌, ℕ, ℤ, Bool, List, [], ◌+◌, length, Option, Some, None, Ok, slice_get}
use Rattle.tn_types.specs.declared.choices.Class.{Class}
use Rattle.notify_window.specs.declared.SendState.TheVariants.{Held, Worn, Room}
use Rattle.notify_window.specs.Log.{sent_of}
use Rattle.stream_manager.specs.event_manager.Receiving.{run_of}
use Rattle.quantised_fields.specs.declared.kind.Kind.{Kind}
use Rattle.stream_manager.specs.Server as server
use Rattle.stream_manager.specs.Server.{ServerEvent}
use Rattle.stream_manager.specs.Client as client
use Rattle.stream_manager.specs.End.{window_log, judged_at, came_of, last_taken_of, event_places, loose_places}
use Rattle.stream_manager.specs.EndCalls.{popped}
use Rattle.stream_manager.specs.ConnCalls as server_calls
use Rattle.stream_manager.specs.ClientCalls as client_calls
use Rattle.stream_manager.specs.declared.config.Config.{Config}
use Rattle.stream_manager.specs.Limits.{Terms}
use Rattle.stream_manager.specs.Stands.{ConnState, ClientState, ConnStandsFor, ClientStandsFor, terms_of}
use Rattle.ghost_model.specs.Ghosts.{scope_log, slot, is_settled}
use Rattle.ghost_model.specs.Scope.{shows}
use Rattle.tribes_ends.specs.Lists.{AsksAtServer}
use Rattle.tribes_ends.specs.declared.asking.Ask.{Ask}
use Rattle.tribes_ends.specs.declared.counts.Counts.{Counts}
use Rattle.tribes_ends.specs.declared.link.Side.{Side}
use Rattle.tribes_ends.specs.declared.link.Side.TheVariants.{Server, Client}

-- ---- a new end at which nothing happened, made with exactly these: no event waits, and no move came

pub record BeginsWith (t : Terms) (c : ConnState) : Type 0 where
  pub stands : ConnStandsFor c []
  pub terms : terms_of c ≡ t
  pub none_waits : c.common.receiver.ready ≡ []
  pub none_taken : c.taken ≡ []

-- a client's end has no blocks before they come
pub record BeginsWithKinds (terms : Config) (table : List Kind) (c : ClientState) : Type 0 where
  pub stands : ClientStandsFor c []
  pub config : c.common.config ≡ terms
  pub kinds : c.copies.kinds ≡ table
  pub none_waits : c.common.receiver.ready ≡ []

abbrev pub BeginsAtServer : Terms → Side → Type 0
BeginsAtServer t (Server c) = BeginsWith t c
BeginsAtServer t (Client c) = ⊥

abbrev pub BeginsAtClient : Config → List Kind → Side → Type 0
BeginsAtClient config kinds (Server c) = ⊥
BeginsAtClient config kinds (Client c) = BeginsWithKinds config kinds c

-- ---- objects, at the server

abbrev pub DoesAtServer : Side → server.ServerEvent → Side → Type 0
DoesAtServer (Server old) event (Server new) = server_calls.Does old event new
DoesAtServer (Server old) event (Client new) = ⊥
DoesAtServer (Client old) event new = ⊥

-- the next period has this number
abbrev pub IsNextPeriod : Side → ℕ → Type 0
IsNextPeriod (Server c) n = server_calls.Answers c (λ log. shows (scope_log (server.ghost_log log))) n
IsNextPeriod (Client c) n = ⊥

abbrev pub IsSettled : Side → ℕ → ℕ → Bool → Type 0
IsSettled (Server c) n field found = server_calls.Answers c (λ log. is_settled (server.ghost_log log) n field) found
IsSettled (Client c) n field found = ⊥

abbrev pub HasSlot : Side → ℕ → Option ℕ → Type 0
HasSlot (Server c) n found = server_calls.Answers c (λ log. slot (server.ghost_log log) n) found
HasSlot (Client c) n found = ⊥

-- ---- events, at either end

abbrev pub Posts : Side → Class → List ℕ → Side → Type 0
Posts (Server old) class bytes (Server new) = server_calls.Does old (server.Posted class bytes) new
Posts (Server old) class bytes (Client new) = ⊥
Posts (Client old) class bytes (Client new) = client_calls.Does old (client.Posted class bytes) new
Posts (Client old) class bytes (Server new) = ⊥

-- the next guaranteed event has this number
abbrev pub IsNextEvent : Side → ℕ → Type 0
IsNextEvent (Server c) number = server_calls.Answers c (server.posted_at_server c.common.config) (Ok number)
IsNextEvent (Client c) number = client_calls.Answers c (client.posted_at_client c.common.config) (Ok number)

-- the oldest event that waits, of this class and these bytes, is handed out: nothing else is changed, and nothing happened
pub record PopsAtServer (old : ConnState) (class : Class) (bytes : List ℕ) (new : ConnState) : Type 0 where
  pub first : slice_get old.common.receiver.ready 0 ≡ Some (class, bytes)
  pub rest : new ≡ record old { common = popped old.common }
  pub stands : server_calls.Becomes old (λ log. log) new

pub record PopsAtClient (old : ClientState) (class : Class) (bytes : List ℕ) (new : ClientState) : Type 0 where
  pub first : slice_get old.common.receiver.ready 0 ≡ Some (class, bytes)
  pub rest : new ≡ record old { common = popped old.common }
  pub stands : client_calls.Becomes old (λ log. log) new

-- no event waits, and the end is as it was
abbrev pub HasNoEvent : Side → Side → Type 0
HasNoEvent (Server old) (Server new) = (old.common.receiver.ready ≡ []) × (new ≡ old)
HasNoEvent (Server old) (Client new) = ⊥
HasNoEvent (Client old) (Client new) = (old.common.receiver.ready ≡ []) × (new ≡ old)
HasNoEvent (Client old) (Server new) = ⊥

abbrev pub Pops : Side → Class → List ℕ → Side → Type 0
Pops (Server old) class bytes (Server new) = PopsAtServer old class bytes new
Pops (Server old) class bytes (Client new) = ⊥
Pops (Client old) class bytes (Client new) = PopsAtClient old class bytes new
Pops (Client old) class bytes (Server new) = ⊥

-- ---- moves, sampled at the client

pub record SamplesAtClient (old : ClientState) (bits number : ℕ) (new : ClientState) : Type 0 where
  pub stands : client_calls.Does old (client.Sampled (record { bits = bits })) new
  pub answer : client_calls.Answers old (client.sampled_answer old.common.config (record { bits = bits })) (Ok number)

abbrev pub Samples : Side → ℕ → ℕ → Side → Type 0
Samples (Client old) bits number (Client new) = SamplesAtClient old bits number new
Samples (Client old) bits number (Server new) = ⊥
Samples (Server old) bits number new = ⊥

-- ---- datagrams

-- a datagram is taken, at the server where so many moves have a place: what it brings waits to be handed out, and so many moves
pub record TakesUp (old : ConnState) (bytes : List ℕ) (room moves : ℕ) (new : ConnState) : Type 0 where
  pub stands : server_calls.Becomes old (server.arriving old.common.config room bytes) new
  pub handed : server_calls.Hands old (server.arriving old.common.config room bytes) new
  pub accepted : server_calls.Accepts old (server.arriving old.common.config room bytes) new
  pub answer : server_calls.Answers old (server.arrive_answer old.common.config room bytes) (Ok (record { moves = moves }))

pub record TakesDown (old : ClientState) (bytes : List ℕ) (new : ClientState) : Type 0 where
  pub stands : client_calls.Becomes old (client.arriving old.common.config old.copies.kinds bytes) new
  pub handed : client_calls.Hands old (client.arriving old.common.config old.copies.kinds bytes) new
  pub taken : client_calls.Answers old (client.arrive_answer old.common.config old.copies.kinds bytes) (Ok tt)

abbrev pub Takes : Side → List ℕ → ℕ → ℕ → Side → Type 0
Takes (Server old) bytes room moves (Server new) = TakesUp old bytes room moves new
Takes (Server old) bytes room moves (Client new) = ⊥
Takes (Client old) bytes room moves (Client new) = TakesDown old bytes new
Takes (Client old) bytes room moves (Server new) = ⊥

-- a data packet is planned at the server, and the values that it carries are asked for
pub record PlansAtServer (old : ConnState) (asked : List Ask) (new : ConnState) : Type 0 where
  pub planning : server_calls.Planning old new
  pub asks : AsksAtServer old asked

abbrev pub Plans : Side → List Ask → Side → Type 0
Plans (Server old) asks (Server new) = PlansAtServer old asks new
Plans (Server old) asks (Client new) = ⊥
Plans (Client old) asks new = ⊥

-- the next datagram of the server is no data packet, and the end is as it was
pub record MakesNone (old new : ConnState) : Type 0 where
  pub state : (log : List ServerEvent) → ConnStandsFor old log → server.server_state old.common.config log ≡ Room → ⊥
  pub same : new ≡ old

abbrev pub AsksNothing : Side → Side → Type 0
AsksNothing (Server old) (Server new) = MakesNone old new
AsksNothing (Server old) (Client new) = ⊥
AsksNothing (Client old) new = new ≡ Client old

-- the data packet of these bytes is sent, at the server the one that was planned, with these values
pub record SendsDown (old : ConnState) (values : List ℤ) (bytes : List ℕ) (new : ConnState) : Type 0 where
  pub sealed : server_calls.Sealed old values new
  pub datagram : server_calls.Answers old (server.server_bytes (terms_of old) values) bytes

pub record SendsUp (old : ClientState) (bytes : List ℕ) (new : ClientState) : Type 0 where
  pub packed : client_calls.ClientPacked old new
  pub state : client_calls.Answers old (client.client_state old.common.config) Room
  pub datagram : client_calls.Answers old (client.client_bytes old.common.config) bytes

abbrev pub Sends : Side → List ℤ → List ℕ → Side → Type 0
Sends (Server old) values bytes (Server new) = SendsDown old values bytes new
Sends (Server old) values bytes (Client new) = ⊥
Sends (Client old) values bytes (Client new) = SendsUp old bytes new
Sends (Client old) values bytes (Server new) = ⊥

-- a ping of these bytes is sent
pub record PingsDown (old : ConnState) (bytes : List ℕ) (new : ConnState) : Type 0 where
  pub pinged : server_calls.Pinging old new
  pub datagram : server_calls.Answers old (server.server_ping_bytes (terms_of old)) bytes

pub record PingsUp (old : ClientState) (bytes : List ℕ) (new : ClientState) : Type 0 where
  pub packed : client_calls.ClientPacked old new
  pub state : client_calls.Answers old (client.client_state old.common.config) Held
  pub datagram : client_calls.Answers old (client.client_ping_bytes old.common.config) bytes

abbrev pub Pings : Side → List ℕ → Side → Type 0
Pings (Server old) bytes (Server new) = PingsDown old bytes new
Pings (Server old) bytes (Client new) = ⊥
Pings (Client old) bytes (Client new) = PingsUp old bytes new
Pings (Client old) bytes (Server new) = ⊥

-- nothing is sent, since as many data packets were as a connection has in its life: nothing happened at the end
pub record WornDown (old new : ConnState) : Type 0 where
  pub state : server_calls.Answers old (server.server_state old.common.config) Worn
  pub same : new ≡ old

pub record WornUp (old new : ClientState) : Type 0 where
  pub state : client_calls.Answers old (client.client_state old.common.config) Worn
  pub stands : client_calls.Becomes old (λ log. log) new
  pub keeps : client_calls.Keeps old new

abbrev pub SendsNothing : Side → Side → Type 0
SendsNothing (Server old) (Server new) = WornDown old new
SendsNothing (Server old) (Client new) = ⊥
SendsNothing (Client old) (Client new) = WornUp old new
SendsNothing (Client old) (Server new) = ⊥

-- ---- what an end tells

abbrev pub HasControl : Side → Option ℕ → Type 0
HasControl (Server c) found = ⊥
HasControl (Client c) found = client_calls.Answers c client.control_at found

-- the number of a data packet, if there is one: they are numbered from 1
abbrev pub or_zero : Option ℕ → ℕ
or_zero None = 0
or_zero (Some number) = number

-- the server accepts what moves it takes, and has no place of its own for them
pub record CountsAtServer (c : ConnState) (n : Counts) : Type 0 where
  pub sent : server_calls.Answers c (λ log. sent_of (window_log (server.server_end log))) n.sent
  pub unjudged : server_calls.Answers c (λ log. judged_at (server.server_end log) + 1) n.unjudged
  pub taken : server_calls.Answers c (λ log. or_zero (last_taken_of (server.server_end log))) n.taken
  pub delivered : server_calls.Answers c (λ log. run_of (came_of (server.server_end log))) n.delivered
  pub waiting : n.waiting ≡ length c.common.receiver.ready
  pub moves : server_calls.Answers c (λ log. length (server.accepted_at c.common.config log)) n.moves
  pub accepted : n.accepted ≡ n.moves
  pub event_places : server_calls.Answers c (λ log. event_places (server.server_end log)) n.event_places
  pub loose_places : server_calls.Answers c (λ log. loose_places (server.server_end log)) n.loose_places
  pub move_places : n.move_places ≡ 0

pub record CountsAtClient (c : ClientState) (n : Counts) : Type 0 where
  pub sent : client_calls.Answers c (λ log. sent_of (window_log (client.client_end log))) n.sent
  pub unjudged : client_calls.Answers c (λ log. judged_at (client.client_end log) + 1) n.unjudged
  pub taken : client_calls.Answers c (λ log. or_zero (last_taken_of (client.client_end log))) n.taken
  pub delivered : client_calls.Answers c (λ log. run_of (came_of (client.client_end log))) n.delivered
  pub waiting : n.waiting ≡ length c.common.receiver.ready
  pub moves : client_calls.Answers c (λ log. length (client.sampled_at log)) n.moves
  pub accepted : client_calls.Answers c client.acked_at n.accepted
  pub event_places : client_calls.Answers c (λ log. event_places (client.client_end log)) n.event_places
  pub loose_places : client_calls.Answers c (λ log. loose_places (client.client_end log)) n.loose_places
  pub move_places : client_calls.Answers c client.move_places n.move_places

abbrev pub AreCounts : Side → Counts → Type 0
AreCounts (Server c) counts = CountsAtServer c counts
AreCounts (Client c) counts = CountsAtClient c counts
