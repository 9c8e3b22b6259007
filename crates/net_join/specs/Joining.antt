-- Who joins a match: what its rules ask for of what was heard, the newest first. A hello goes out at the end of each turn's listening
-- until a welcome came; the first one makes the client's end. From then on what comes from the server arrives there, and each turn
-- samples a move and packs.
use Rattle.std.specs.Prelude.{ℕ, zero, suc, ◌≡◌, ◌+◌, ◌==◌, ◌&&◌, nat_le, nat_lt, Bool, if◌then◌else◌, List, [], ◌∷◌, ◌++◌, map, replicate, codes, Option, Some, None, refl}
use Rattle.std.specs.Option.{option_or}
use Rattle.std.specs.Fmt.{decimal}
use Rattle.std.specs.Result.{is_ok}
use Rattle.rand_pcg.specs.Lcg.{Lcg}
use Rattle.tn_types.specs.declared.limits.TheConstants.{MAX_CLIENTS, MAX_LIFE, MIN_DATAGRAM_BYTES, MAX_DATAGRAM_BYTES, WORLD_MOVE_BITS}
use Rattle.tn_types.specs.declared.moves.Move.{Move}
use Rattle.bit_stream.specs.WorldMoves.{bits_of}
use Rattle.tn_outside.specs.Links.{Datagram}
use Rattle.event_manager.specs.Receiving.{run_of}
use Rattle.stream_manager.specs.declared.config.Config.{Config}
use Rattle.stream_manager.specs.End.{with_event, came_of}
use Rattle.stream_manager.specs.Client.{ClientEvent, Sampled, client_end, ghosts_came, sampled_answer, packing, arriving, client_datagrams}
use Rattle.world_rules.specs.Kinds.{match_kinds}
use Rattle.match_script.specs.declared.limits.TheConstants.{MIN_VERSION, MAX_VERSION}
use Rattle.match_report.specs.Replays.{shown_line}
use Rattle.copies_told.specs.Told.{copies_told}
use Rattle.script_maker.specs.Draws.{generator}
use Rattle.script_maker.specs.Lines.{move_drawn}
use Rattle.net_rules.specs.declared.hello.WelcomeTold.{WelcomeTold}
use Rattle.net_rules.specs.Turns.{Event, Heard, Turned}
use Rattle.net_rules.specs.Hellos.{hello_with, welcome, welcome_of, is_arrival, little}

-- ---- welcomes

-- a datagram is from the server
abbrev pub is_of_server : Datagram → Bool
is_of_server d = d.peer.number == 0

abbrev pub to_server : List ℕ → Datagram
to_server bytes = record { peer = record { number = 0 }; bytes = bytes }

-- what a welcome tells a connection to be made with
abbrev pub config_of : WelcomeTold → Config
config_of w = record { client = w.client; life = w.life; size = w.size; version = w.version; move_bits = WORLD_MOVE_BITS }

-- each number of it is in the range of a match
abbrev pub is_config : Config → Bool
is_config c =
    nat_lt c.client MAX_CLIENTS && nat_le 1 c.life && nat_le c.life MAX_LIFE
    && nat_le MIN_DATAGRAM_BYTES c.size && nat_le c.size MAX_DATAGRAM_BYTES && nat_le MIN_VERSION c.version && nat_le c.version MAX_VERSION

abbrev pub taken_by : ℕ → Option WelcomeTold → Option Config
taken_by nonce None = None
taken_by nonce (Some w) = if w.nonce == nonce && is_config (config_of w) then Some (config_of w) else None

-- what a datagram lets a client be made with, where these are the nonces of its hellos: a welcome from the server of this nonce
abbrev pub welcomed : ℕ → Datagram → Option Config
welcomed nonce d = if is_of_server d then taken_by nonce (welcome_of d.bytes) else None

-- the first welcome counts
abbrev pub joined : ℕ → List Event → Option Config
joined nonce [] = None
joined nonce (Heard d ∷ past) = option_or (joined nonce past) (welcomed nonce d)
joined nonce (Turned ∷ past) = joined nonce past

-- ---- the client's own moves

-- the chances of client c behind so many moves
abbrev pub chances : ℕ → ℕ → Lcg
chances c zero = generator c 1
chances c (suc k) = (move_drawn (chances c k)).1

-- its k-th move, counted from 0
abbrev pub move_at : ℕ → ℕ → Move
move_at c k = (move_drawn (chances c k)).0

-- ---- turns

abbrev pub one_where : Option Config → ℕ
one_where None = 0
one_where (Some c) = 1

abbrev pub none_where : Option Config → ℕ
none_where None = 1
none_where (Some c) = 0

-- how many turns the client had its end
abbrev pub turns_joined : ℕ → List Event → ℕ
turns_joined nonce [] = 0
turns_joined nonce (Heard d ∷ past) = turns_joined nonce past
turns_joined nonce (Turned ∷ past) = turns_joined nonce past + one_where (joined nonce past)

-- how many turns ended without a welcome, each with a hello
abbrev pub hellos : ℕ → List Event → ℕ
hellos nonce [] = 0
hellos nonce (Heard d ∷ past) = hellos nonce past
hellos nonce (Turned ∷ past) = hellos nonce past + none_where (joined nonce past)

-- ---- what happened at the client's end, the newest first

-- what comes from the server and can be a datagram of a connection arrives; a refused one changes nothing
abbrev pub heard_by : Option Config → Datagram → List ClientEvent → List ClientEvent
heard_by None d log = log
heard_by (Some c) d log = if is_of_server d && is_arrival d.bytes then arriving c match_kinds d.bytes log else log

-- a move is sampled, unless it is refused
abbrev pub samples : Config → Move → List ClientEvent → List ClientEvent
samples c m log = if is_ok (sampled_answer c (bits_of m) log) then Sampled (bits_of m) ∷ log else log

abbrev pub packs : Config → List ClientEvent → List ClientEvent
packs c log = with_event (packing c log) log

-- a turn samples and packs
abbrev pub turned_by : Option Config → Move → List ClientEvent → List ClientEvent
turned_by None m log = log
turned_by (Some c) m log = packs c (samples c m log)

abbrev pub client_of : Option Config → ℕ
client_of None = 0
client_of (Some c) = c.client

abbrev pub log_of : ℕ → List Event → List ClientEvent
log_of nonce [] = []
log_of nonce (Heard d ∷ past) = heard_by (joined nonce past) d (log_of nonce past)
log_of nonce (Turned ∷ past) =
    turned_by (joined nonce past) (move_at (client_of (joined nonce past)) (turns_joined nonce past)) (log_of nonce past)

-- ---- what is sent and written

abbrev pub datagrams_of : Option Config → List ClientEvent → List (List ℕ)
datagrams_of None log = []
datagrams_of (Some c) log = client_datagrams c log

-- the hellos, and then the client's own datagrams, the oldest first; all go to the server
abbrev pub sends : ℕ → List Event → List Datagram
sends nonce past =
    map to_server (replicate (hellos nonce past) (hello_with nonce) ++ datagrams_of (joined nonce past) (log_of nonce past))

-- what is written at the end: the client's copies, or that there was no welcome
abbrev pub ending_by : Option Config → List ClientEvent → List ℕ
ending_by None log = codes "join none" ++ 10 ∷ []
ending_by (Some c) log =
    shown_line (codes "join " ++ decimal c.client) (run_of (came_of (client_end log))) (copies_told match_kinds (ghosts_came log))

abbrev pub ending : ℕ → List Event → List ℕ
ending nonce past = ending_by (joined nonce past) (log_of nonce past)

-- ---- examples: the nonce is 7

-- a welcome of another nonce, or of another peer, is none
abbrev first : List ℕ → ℕ → Event
first nonce peer = Heard (record { peer = record { number = peer }; bytes = welcome nonce 3 1000 400 1 })

joins : joined 7 (Turned ∷ first (little 4 7) 0 ∷ Turned ∷ [])
    ≡ Some (record { client = 3; life = 1000; size = 400; version = 1; move_bits = 10 })
joins = refl

other_nonce : joined 7 (first (little 4 8) 0 ∷ []) ≡ None
other_nonce = refl

other_peer : joined 7 (first (little 4 7) 1 ∷ []) ≡ None
other_peer = refl

-- of two turns without a welcome each said a hello
two_hellos : sends 7 (Turned ∷ Turned ∷ []) ≡ to_server (2 ∷ 7 ∷ 0 ∷ 0 ∷ 0 ∷ []) ∷ to_server (2 ∷ 7 ∷ 0 ∷ 0 ∷ 0 ∷ []) ∷ []
two_hellos = refl

nobody : ending 7 (Turned ∷ []) ≡ codes "join none" ++ 10 ∷ []
nobody = refl
