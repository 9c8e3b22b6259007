-- What goes over the network: each datagram that was sent spells a packet whose guaranteed events are those that were
-- posted, and so are those that came.
use Rattle.std.proofs.Common.{◌≡◌, ◌∙◌, ◌≢◌, ◌==◌, length-append, length-drop, ℕ, ◌+◌, ◌<◌, ◌≤◌, ◌^◌, Bool, true, false, List, [], ◌∷◌, ◌++◌, length, reverse, Option, Some, None, Ok, Err, refl, sym, ap, subst, arith, if◌then◌else◌}
use Rattle.std.specs.Prelude.{slice_get, nat_lt, ℤ}
use Rattle.std.specs.Result.{is_ok}
use Rattle.std.specs.List.{AllByRecursion}
use Rattle.tn_types.specs.declared.choices.Class.{Class}
use Rattle.tn_types.specs.declared.choices.Class.TheVariants.{Guaranteed, Loose}
use Rattle.notify_window.specs.declared.SendState.{SendState}
use Rattle.notify_window.specs.declared.SendState.TheVariants.{Held, Worn, Room}
use Rattle.wire_format.specs.declared.server.ServerPacket.{ServerPacket}
use Rattle.wire_format.specs.declared.server.ServerPacket.TheVariants as down
use Rattle.wire_format.specs.declared.client.ClientPacket.{ClientPacket}
use Rattle.wire_format.specs.declared.client.ClientPacket.TheVariants as up
use Rattle.wire_format.specs.Ghosts.{IsGhost}
use Rattle.wire_format.specs.Server.{IsServer}
use Rattle.wire_format.specs.declared.wire.Wire.{Wire}
use Rattle.wire_format.specs.Moves.{move_width, IsMove}
use Rattle.ghost_model.specs.Ghosts.{Grant, scope_log}
use Rattle.ghost_model.specs.Legal.{IsAllowed}
use Rattle.conn_packing.specs.stream_manager.ghost_masks.Plan.{sizes}
use Rattle.tn_types.specs.declared.choices.Drain.{Drain}
use Rattle.tn_types.specs.declared.choices.Read.{Read}
use Rattle.conn_packing.specs.stream_manager.declared.config.Config.{Config}
use Rattle.move_manager.specs.declared.faults.MoveFault.TheVariants as move_refused
use Rattle.move_manager.specs.Accepting as moves
use Rattle.std.proofs.lemmas.Bool.Decides.{nat_tests}
use Rattle.std.proofs.lemmas.Bool.{ltb-true}
use Rattle.std.proofs.lemmas.List.{take_all}
use Rattle.tn_types.specs.declared.moves.MoveBits.{MoveBits}
use Rattle.conn_packing.specs.stream_manager.declared.fault.ArriveFault.{ArriveFault}
use Rattle.conn_packing.specs.stream_manager.declared.fault.ClientFault.{ClientFault}
use Rattle.conn_packing.specs.stream_manager.Limits.{Terms, AreTerms, wire_of}
use Rattle.tn_types.specs.Checks.{Checked}
use Rattle.conn_packing.specs.stream_manager.Faults.{checked_packet}
use Rattle.move_manager.specs.Sending as sending
use Rattle.move_manager.specs.Sending.{sampled_of, acked_of, packet_of}
use Rattle.move_manager.specs.Accepting.{accepted_of, accept}
use Rattle.move_manager.proofs.InOrder.{Holds, IsFront, holds-push, front-push, front-accept}
use Rattle.conn_packing.specs.stream_manager.End.{came_of, with_event}
use Rattle.conn_packing.specs.stream_manager.Server as server_log
use Rattle.conn_packing.specs.stream_manager.Server.{ServerEvent, server_end, server_datagrams, seen_up, server_state, posted_at_server, with_plan, next_body, server_ping, ghost_log, ScopeChange, scope_event, received_at, ghost_room, took_at_server, packet_answer, accepted_at, move_log, moves_taken}
use Rattle.conn_packing.specs.stream_manager.Client as client_log
use Rattle.conn_packing.specs.stream_manager.Client.{ClientEvent, client_end, ghosts_in, ghosts_came, client_datagrams, seen_down, client_state, posted_at_client, client_body, client_ping, took_at_client, counted_answer, sampled_answer, sampled_at, sample_log, moves_acked}
use Rattle.conn_packing.specs.Packs.{absorbing, values_of}
use Rattle.pair_core.specs.History.{PairStep, Show, Hide, Near, Post, ClientPost, Sample, Pack, ClientPack, Down, Up, Raw, history, server_posts, client_posts, client_samples}
use Rattle.conn_packing.specs.Reads.{MayBeDrained}
use Rattle.pair_core.specs.Conditions.{IsPayload}
use Rattle.pair_laws.specs.Laws.{posted_at}
use Rattle.wire_logs.specs.Again.{IsWholeClient}
use Rattle.conn_packing.proofs.Absorbed.{all-drained}
use Rattle.pair_laws.proofs.Good.{IsGoodStep, AreGood, FitRoom, FitNext, reads-fit}
use Rattle.pair_laws.proofs.GhostItems.{ghosts-fit, control-fits}
use Rattle.pair_core.proofs.LegalLogs.{IsLegalLog, drained-still, plan-legal, packed-legal, took-legal}
use Rattle.pair_laws.proofs.Heads.{head-ok_up}
use Rattle.pair_laws.proofs.Windows.{head-meets}
use Rattle.conn_packing.proofs.Lists.{all-append, all-drop, all-map, all-at, all-reverse}
use Rattle.pair_laws.specs.Exchange.{server_packets, client_packets, given_down, given_up}
use Rattle.pair_laws.proofs.Fits.{EndFits, start-fits, posted-fits, loose-fits, packed-fits, pinged-fits, took-fits, data_head-fits, ping_head-fits, events-fit}
use Rattle.event_manager.specs.Posted.{ArePosted}
use Rattle.event_manager.proofs.Prefixes.{posted-push}
use Rattle.pair_laws.proofs.Posted.{posted-events, posted-items}
use Rattle.pair_laws.proofs.Sections.{blocks-fit}

-- a move that is taken up has no further bits, and finds room
record IsTakenUp (c : Config) (m : MoveBits) (u : List ClientEvent) : Type 0 where
  narrow : IsMove (wire_of c) m
  worn : length (sampled_at u) ≢ c.life
  full : length (sampled_at u) ≢ acked_of (sample_log u) + 32

sample-is : (c : Config) (m : MoveBits) (u : List ClientEvent) → is_ok (sampled_answer c m u) ≡ true → IsTakenUp c m u
sample-is c m u ok = go (nat_lt m.bits (2 ^ move_width (wire_of c))) refl
  where
    room : (b d : Bool) → (length (sampled_at u) == c.life) ≡ b → (length (sampled_at u) == acked_of (sample_log u) + 32) ≡ d → is_ok (counted_answer c u) ≡ true
        → (length (sampled_at u) ≢ c.life) × (length (sampled_at u) ≢ acked_of (sample_log u) + 32)
    room true d e f here = absurd (let h : is_ok (counted_answer c u) ≡ false = rw e refl in cc)
    room false true e f here = absurd (let h : is_ok (counted_answer c u) ≡ false = rw (e, f) refl in cc)
    room false false e f here = (λ same. grind (arith, nat_tests, e, same), λ same. grind (arith, nat_tests, f, same))

    go : (b : Bool) → nat_lt m.bits (2 ^ move_width (wire_of c)) ≡ b → IsTakenUp c m u
    go false e = absurd (let h : is_ok (sampled_answer c m u) ≡ false = rw e refl in cc)
    go true e =
        let here : is_ok (counted_answer c u) ≡ true =
        sym (ap (λ (b : Bool). is_ok (if b then counted_answer c u else Err (move_refused.TooWide (move_width (wire_of c))))) e) ∙ ok in
        let apart = room (length (sampled_at u) == c.life) (length (sampled_at u) == acked_of (sample_log u) + 32) refl refl here in
        record { narrow = ltb-true _ _ e; worn = apart.0; full = apart.1 }

-- how many moves a packet of the server tells of
abbrev pub TellsAtMost : ℕ → ServerPacket → Type 0
TellsAtMost count (down.Ping head) = Unit {0}
TellsAtMost count (down.Body p) = p.accepted ≤ count

-- the moves of a client's packet are those that were sampled, from its first one on
abbrev pub HoldsMoves : List MoveBits → ClientPacket → Type 0
HoldsMoves ms (up.Ping head) = Unit {0}
HoldsMoves ms (up.Body p) = Holds (record { first = p.first; moves = p.moves }) ms

-- a packet of the server that has a spelling, whose guaranteed events are these, and which tells of so many moves at most
pub record IsDown (t : Terms) (vs : List (List ℕ)) (count : ℕ) (p : ServerPacket) : Type 0 where
  pub fits : IsServer 1 t.kinds p
  pub posted : ArePosted vs (seen_down p).events
  pub tells : TellsAtMost count p

-- a packet of the client with these events and moves
pub record IsUp (w : Wire) (vs : List (List ℕ)) (ms : List MoveBits) (p : ClientPacket) : Type 0 where
  pub fits : IsWholeClient w p
  pub posted : ArePosted vs (seen_up p).events
  pub moves : HoldsMoves ms p

tells-more : (m n : ℕ) (p : ServerPacket) → m ≤ n → TellsAtMost m p → TellsAtMost n p
tells-more m n (down.Ping head) l h = tt
tells-more m n (down.Body p) l h = omega arith

holds-more : (ms : List MoveBits) (m : MoveBits) (p : ClientPacket) → HoldsMoves ms p → HoldsMoves (ms ++ m ∷ []) p
holds-more ms m (up.Ping head) h = tt
holds-more ms m (up.Body p) h = holds-push (record { first = p.first; moves = p.moves }) ms m h

down-push : (t : Terms) (vs : List (List ℕ)) (w : List ℕ) (count : ℕ) (p : ServerPacket) → IsDown t vs count p → IsDown t (vs ++ w ∷ []) count p
down-push t vs w count p d = record { fits = d.fits; posted = posted-push vs w (seen_down p).events d.posted; tells = d.tells }

down-told : (t : Terms) (vs : List (List ℕ)) (m n : ℕ) → m ≤ n → (p : ServerPacket) → IsDown t vs m p → IsDown t vs n p
down-told t vs m n l p d = record { fits = d.fits; posted = d.posted; tells = tells-more m n p l d.tells }

up-push : (w : Wire) (vs : List (List ℕ)) (v : List ℕ) (ms : List MoveBits) (p : ClientPacket) → IsUp w vs ms p → IsUp w (vs ++ v ∷ []) ms p
up-push w vs v ms p d = record { fits = d.fits; posted = posted-push vs v (seen_up p).events d.posted; moves = d.moves }

up-sampled : (w : Wire) (vs : List (List ℕ)) (ms : List MoveBits) (m : MoveBits) (p : ClientPacket) → IsUp w vs ms p → IsUp w vs (ms ++ m ∷ []) p
up-sampled w vs ms m p d = record { fits = d.fits; posted = d.posted; moves = holds-more ms m p d.moves }

-- the moves of both ends
pub record Moves (life : ℕ) (server client : List MoveBits) (told : ℕ) : Type 0 where
  pub accepted : length server ≤ life
  pub sampled : length client ≤ life
  pub front : IsFront server client
  pub acked : told ≤ length server
  pub few : length client ≤ told + 32

-- the invariant over the steps
pub record Carried (t : Terms) (s : List ServerEvent) (u : List ClientEvent) : Type 0 where
  pub server : EndFits t.config.life (server_end s)
  pub client : EndFits t.config.life (client_end u)
  pub down : AllByRecursion (IsDown t (posted_at (server_end s)) (length (accepted_at t.config s))) (server_packets s)
  pub up : AllByRecursion (IsUp (wire_of t.config) (posted_at (client_end u)) (sampled_at u)) (client_packets u)
  pub came_down : ArePosted (posted_at (server_end s)) (came_of (client_end u))
  pub came_up : ArePosted (posted_at (client_end u)) (came_of (server_end s))
  pub moves : Moves t.config.life (accepted_at t.config s) (sampled_at u) (acked_of (sample_log u))
  pub narrow : AllByRecursion (IsMove (wire_of t.config)) (sampled_at u)
  pub legal : IsLegalLog t.kinds s
  pub ghosts : AllByRecursion (IsGhost t.kinds) (ghosts_came u)

module _ (t : Terms) (limits : AreTerms t) where
  start : Carried t [] []
  start = record {
    server = start-fits t.config.life;
    client = start-fits t.config.life;
    down = tt;
    up = tt;
    came_down = tt;
    came_up = tt;
    moves = record { accepted = omega arith; sampled = omega arith; front = record { within = omega arith; first = refl }; acked = omega arith; few = omega arith };
    narrow = tt;
    legal = tt;
    ghosts = tt;
  }

  -- ---- posts

  posts-down : (class : Class) (v : List ℕ) (s : List ServerEvent) (u : List ClientEvent) → IsPayload v → Carried t s u → Carried t (server_posts t.config class v s) u
  posts-down Loose v s u fits h = record { server = loose-fits t.config.life (server_end s) v fits h.server; client = h.client; down = h.down; up = h.up; came_down = h.came_down; came_up = h.came_up; moves = h.moves; narrow = h.narrow; legal = h.legal; ghosts = h.ghosts }
  posts-down Guaranteed v s u fits h = go (is_ok (posted_at_server t.config s)) refl
    where
      go : (b : Bool) → is_ok (posted_at_server t.config s) ≡ b → Carried t (if b then server_log.Posted Guaranteed v ∷ s else s) u
      go false e = h
      go true e = record {
        server = posted-fits t.config.life (server_end s) v e fits h.server;
        client = h.client;
        down = all-map (IsDown t (posted_at (server_end s)) (length (accepted_at t.config s))) (IsDown t (posted_at (server_end s) ++ v ∷ []) (length (accepted_at t.config s)))
            (down-push t (posted_at (server_end s)) v (length (accepted_at t.config s))) (server_packets s) h.down;
        up = h.up;
        came_down = posted-push (posted_at (server_end s)) v (came_of (client_end u)) h.came_down;
        came_up = h.came_up;
        moves = h.moves;
        narrow = h.narrow;
        legal = h.legal;
        ghosts = h.ghosts;
      }

  posts-up : (class : Class) (v : List ℕ) (s : List ServerEvent) (u : List ClientEvent) → IsPayload v → Carried t s u → Carried t s (client_posts t.config class v u)
  posts-up Loose v s u fits h = record { server = h.server; client = loose-fits t.config.life (client_end u) v fits h.client; down = h.down; up = h.up; came_down = h.came_down; came_up = h.came_up; moves = h.moves; narrow = h.narrow; legal = h.legal; ghosts = h.ghosts }
  posts-up Guaranteed v s u fits h = go (is_ok (posted_at_client t.config u)) refl
    where
      go : (b : Bool) → is_ok (posted_at_client t.config u) ≡ b → Carried t s (if b then client_log.Posted Guaranteed v ∷ u else u)
      go false e = h
      go true e = record {
        server = h.server;
        client = posted-fits t.config.life (client_end u) v e fits h.client;
        down = h.down;
        up = all-map (IsUp (wire_of t.config) (posted_at (client_end u)) (sampled_at u)) (IsUp (wire_of t.config) (posted_at (client_end u) ++ v ∷ []) (sampled_at u)) (up-push (wire_of t.config) (posted_at (client_end u)) v (sampled_at u)) (client_packets u) h.up;
        came_down = h.came_down;
        came_up = posted-push (posted_at (client_end u)) v (came_of (server_end s)) h.came_up;
        moves = h.moves;
        narrow = h.narrow;
        legal = h.legal;
        ghosts = h.ghosts;
      }

  -- ---- samples

  samples-up : (m : MoveBits) (s : List ServerEvent) (u : List ClientEvent) → Carried t s u → Carried t s (client_samples t.config m u)
  samples-up m s u h = go (is_ok (sampled_answer t.config m u)) refl
    where
      go : (b : Bool) → is_ok (sampled_answer t.config m u) ≡ b → Carried t s (if b then client_log.Sampled m ∷ u else u)
      go false e = h
      go true e =
          let taken = sample-is t.config m u e in
          let one = length-append (sampled_at u) (m ∷ []) in
          record {
            server = h.server;
            client = h.client;
            down = h.down;
            up = all-map (IsUp (wire_of t.config) (posted_at (client_end u)) (sampled_at u)) (IsUp (wire_of t.config) (posted_at (client_end u)) (sampled_at u ++ m ∷ [])) (up-sampled (wire_of t.config) (posted_at (client_end u)) (sampled_at u) m) (client_packets u) h.up;
            came_down = h.came_down;
            came_up = h.came_up;
            moves = record {
              accepted = h.moves.accepted;
              sampled = omega (arith, h.moves.sampled, taken.worn, one);
              front = front-push (accepted_at t.config s) (sampled_at u) m h.moves.front;
              acked = h.moves.acked;
              few = omega (arith, h.moves.few, taken.full, one);
            };
            narrow = all-append (IsMove (wire_of t.config)) (sampled_at u) (m ∷ []) h.narrow (taken.narrow, tt);
            legal = h.legal;
            ghosts = h.ghosts;
          }

  -- ---- packs

  short : t.config.life < 2 ^ 24
  short = omega (arith, limits.config.life)

  -- the packets that the server makes
  pub ping-down : (s : List ServerEvent) (u : List ClientEvent) → server_state t.config s ≡ Held → Carried t s u → IsServer 1 t.kinds (down.Ping (server_ping t.config s))
  ping-down s u e h = ping_head-fits t.config.life t.config.client (server_end s) short limits.config.client e h.server

  pub body-down : (s : List ServerEvent) (u : List ClientEvent) (values : List ℤ) → server_state t.config s ≡ Room → FitNext t s values → Carried t s u → IsServer 1 t.kinds (down.Body (next_body t s values))
  body-down s u values e fit h = record {
    head = data_head-fits t.config.life t.config.client (server_end s) short limits.config.client e h.server;
    accepted = omega (arith, h.moves.accepted, short);
    control = control-fits (scope_log (ghost_log (with_plan t s)));
    blocks = blocks-fit t s limits;
    events = events-fit t.config t.config.life _ (server_end s) short h.server;
    ghosts = ghosts-fit t.kinds (Grant ∷ ghost_log s) limits.kinds t.config.version (received_at s) (ghost_room t s) values (plan-legal t s h.legal) fit;
  }

  packs-down : (s : List ServerEvent) (u : List ClientEvent) (values : List ℤ) → FitRoom t s values → Carried t s u → Carried t (server_log.packing t s values) u
  packs-down s u values fit h = go (server_state t.config s) refl
    where
      go : (state : SendState) → server_state t.config s ≡ state → Carried t (server_log.packed_onto t s values state) u
      go Worn e = h
      go Held e = record {
        server = pinged-fits t.config.life (server_end s) _ h.server;
        client = h.client;
        down = all-append (IsDown t (posted_at (server_end s)) (length (accepted_at t.config s))) (server_packets s) _ h.down
            (record { fits = ping-down s u e h; posted = tt; tells = tt }, tt);
        up = h.up;
        came_down = h.came_down;
        came_up = h.came_up;
        moves = h.moves;
        narrow = h.narrow;
        legal = h.legal;
        ghosts = h.ghosts;
      }
      go Room e = record {
        server = packed-fits t.config.life (server_end s) _ e h.server;
        client = h.client;
        down = all-append (IsDown t (posted_at (server_end s)) (length (accepted_at t.config s))) (server_packets s) _ h.down (
          record { fits = body-down s u values e (fit e) h; posted = posted-events t.config _ (server_end s); tells = omega arith },
          tt,
        );
        up = h.up;
        came_down = h.came_down;
        came_up = h.came_up;
        moves = h.moves;
        narrow = h.narrow;
        legal = packed-legal t s values limits.kinds h.legal;
        ghosts = h.ghosts;
      }

  -- ---- objects in scope

  scoped : (change : ScopeChange) (s : List ServerEvent) (u : List ClientEvent) → IsAllowed (sizes t.kinds) (scope_event change) (ghost_log s) → Carried t s u → Carried t (server_log.Scoped change ∷ s) u
  scoped change s u may h = record { server = h.server; client = h.client; down = h.down; up = h.up; came_down = h.came_down; came_up = h.came_up; moves = h.moves; narrow = h.narrow; legal = (may, h.legal); ghosts = h.ghosts }

  pub absorbs-down : (drains : List Drain) (s : List ServerEvent) (u : List ClientEvent) → AllByRecursion (MayBeDrained t (ghost_log s)) drains → Carried t s u → Carried t (absorbing drains s) u
  absorbs-down [] s u may h = h
  absorbs-down (d ∷ drains) s u may h =
      absorbs-down drains (server_log.Scoped (server_log.Absorb d.n d.bits) ∷ s) u (drained-still t d s drains may.1) (scoped (server_log.Absorb d.n d.bits) s u (may.0.up, may.0.fields) h)

  -- all sampled moves that the server may lack
  waiting-moves : (s : List ServerEvent) (u : List ClientEvent) → Carried t s u → length (packet_of (sample_log u)).moves + acked_of (sample_log u) ≡ length (sampled_at u)
  waiting-moves s u h = omega (arith, length-drop (acked_of (sample_log u)) (sampled_at u), h.moves.acked, h.moves.front.within)

  -- the packets that the client makes
  pub ping-up : (s : List ServerEvent) (u : List ClientEvent) → client_state t.config u ≡ Held → Carried t s u → IsWholeClient (wire_of t.config) (up.Ping (client_ping t.config u))
  ping-up s u e h = ping_head-fits t.config.life t.config.client (client_end u) short limits.config.client e h.client

  pub body-up : (s : List ServerEvent) (u : List ClientEvent) → client_state t.config u ≡ Room → Carried t s u → IsWholeClient (wire_of t.config) (up.Body (client_body t.config u))
  body-up s u e h = record {
    head = data_head-fits t.config.life t.config.client (client_end u) short limits.config.client e h.client;
    first = omega (arith, h.moves.acked, h.moves.accepted, limits.config.life);
    moves = record { few = omega (arith, waiting-moves s u h, h.moves.few); each = all-drop (IsMove (wire_of t.config)) (acked_of (sample_log u)) (sampled_at u) h.narrow };
    events = events-fit t.config t.config.life _ (client_end u) short h.client;
  }

  packs-up : (s : List ServerEvent) (u : List ClientEvent) → Carried t s u → Carried t s (with_event (client_log.packing t.config u) u)
  packs-up s u h = go (client_state t.config u) refl
    where
      holds : Holds (packet_of (sample_log u)) (sampled_at u)
      holds = let all = waiting-moves s u h in record { within = omega (arith, all); moves = sym (take_all _ _ (omega arith)) }

      go : (state : SendState) → client_state t.config u ≡ state → Carried t s (with_event (client_log.pack_event t.config u state) u)
      go Worn e = h
      go Held e = record {
        server = h.server;
        client = pinged-fits t.config.life (client_end u) _ h.client;
        down = h.down;
        up = all-append (IsUp (wire_of t.config) (posted_at (client_end u)) (sampled_at u)) (client_packets u) _ h.up
            (record { fits = ping-up s u e h; posted = tt; moves = tt }, tt);
        came_down = h.came_down;
        came_up = h.came_up;
        moves = h.moves;
        narrow = h.narrow;
        legal = h.legal;
        ghosts = h.ghosts;
      }
      go Room e = record {
        server = h.server;
        client = packed-fits t.config.life (client_end u) _ e h.client;
        down = h.down;
        up = all-append (IsUp (wire_of t.config) (posted_at (client_end u)) (sampled_at u)) (client_packets u) _ h.up (
          record { fits = body-up s u e h; posted = posted-events t.config _ (client_end u); moves = holds },
          tt,
        );
        came_down = h.came_down;
        came_up = h.came_up;
        moves = h.moves;
        narrow = h.narrow;
        legal = h.legal;
        ghosts = h.ghosts;
      }

  -- ---- arrivals

  seq-down : (p : ServerPacket) → IsServer 1 t.kinds p → (seen_down p).head.seq < 2 ^ 24
  seq-down (down.Ping head) fits = fits.seq
  seq-down (down.Body body) fits = fits.head.seq

  seq-up : (p : ClientPacket) → IsWholeClient (wire_of t.config) p → (seen_up p).head.seq < 2 ^ 24
  seq-up (up.Ping head) fits = fits.seq
  seq-up (up.Body body) fits = fits.head.seq

  ghosts-of : (p : ServerPacket) → IsServer 1 t.kinds p → AllByRecursion (IsGhost t.kinds) (ghosts_in p)
  ghosts-of (down.Ping head) fits = tt
  ghosts-of (down.Body body) fits = fits.ghosts.each

  -- the client learns of moves
  moves-down : (p : ServerPacket) (accepted : List MoveBits) (log : List sending.SenderEvent) → TellsAtMost (length accepted) p → Moves t.config.life accepted (sampled_of log) (acked_of log) → Moves t.config.life accepted (sampled_of (moves_acked p log)) (acked_of (moves_acked p log))
  moves-down (down.Ping head) accepted log tells m = m
  moves-down (down.Body p) accepted log tells m = record { accepted = m.accepted; sampled = m.sampled; front = m.front; acked = omega (arith, m.acked, tells); few = omega (arith, m.few) }

  took-down : (s : List ServerEvent) (u : List ClientEvent) (p : ServerPacket) (a : Checked ClientFault) → IsServer 1 t.kinds p → ArePosted (posted_at (server_end s)) (seen_down p).events → TellsAtMost (length (accepted_at t.config s)) p
      → Carried t s u → Carried t s (took_at_client u (checked_packet p a))
  took-down s u p (Err e) fits posted tells h = h
  took-down s u p (Ok x) fits posted tells h = record {
    server = h.server;
    client = took-fits t.config.life (client_end u) (seen_down p) (seq-down p fits) h.client;
    down = h.down;
    up = subst (λ (ms : List MoveBits). AllByRecursion (IsUp (wire_of t.config) (posted_at (client_end u)) ms) (client_packets u)) (same-sampled p) h.up;
    came_down = posted-items (posted_at (server_end s)) (seen_down p).events (came_of (client_end u)) posted h.came_down;
    came_up = h.came_up;
    moves = moves-down p (accepted_at t.config s) (sample_log u) tells h.moves;
    narrow = subst (AllByRecursion (IsMove (wire_of t.config))) (same-sampled p) h.narrow;
    legal = h.legal;
    ghosts = all-append (IsGhost t.kinds) (reverse (ghosts_in p)) (ghosts_came u) (all-reverse (IsGhost t.kinds) (ghosts_in p) (ghosts-of p fits)) h.ghosts;
  }
    where
      same-sampled : (p : ServerPacket) → sampled_at u ≡ sampled_of (moves_acked p (sample_log u))
      same-sampled (down.Ping head) = refl
      same-sampled (down.Body p) = refl

  -- the server accepts moves
  pub record Accepts (old new : List MoveBits) (sampled : List MoveBits) (acked : ℕ) : Type 0 where
    pub moves : Moves t.config.life new sampled acked
    pub longer : length old ≤ length new

  pub moves-up : (p : ClientPacket) (room : ℕ) (log : List moves.ReceiverEvent) (sampled : List MoveBits) (acked : ℕ) → HoldsMoves sampled p → Moves t.config.life (accepted_of t.config.life log) sampled acked
      → Accepts (accepted_of t.config.life log) (accepted_of t.config.life (moves_taken p room log)) sampled acked
  moves-up (up.Ping head) room log sampled acked holds m = record { moves = m; longer = omega arith }
  moves-up (up.Body p) room log sampled acked holds m =
      let grows = front-accept t.config.life room (record { first = p.first; moves = p.moves }) (accepted_of t.config.life log) sampled holds m.front in
      record {
        moves = record { accepted = omega (arith, grows.front.within, m.sampled); sampled = m.sampled; front = grows.front; acked = omega (arith, m.acked, grows.longer); few = m.few };
        longer = grows.longer;
      }

  took-up : (s : List ServerEvent) (u : List ClientEvent) (room : ℕ) (p : ClientPacket) (a : Checked ArriveFault) → server_log.packet_check t.config s p ≡ a → IsWholeClient (wire_of t.config) p → ArePosted (posted_at (client_end u)) (seen_up p).events → HoldsMoves (sampled_at u) p
      → Carried t s u → Carried t (took_at_server s room (checked_packet p a)) u
  took-up s u room p (Err e) is fits posted holds h = h
  took-up s u room p (Ok x) is fits posted holds h =
      let meets = head-meets t.config.client (server_end s) (seen_up p) (head-ok_up t.config s p (ap is_ok is)) in
      let accepts = moves-up p room (move_log s) (sampled_at u) (acked_of (sample_log u)) holds h.moves in
      record {
        server = took-fits t.config.life (server_end s) (seen_up p) (seq-up p fits) h.server;
        client = h.client;
        down = all-map (IsDown t (posted_at (server_end s)) (length (accepted_at t.config s))) (IsDown t (posted_at (server_end s)) (length (accepted_of t.config.life (moves_taken p room (move_log s)))))
            (down-told t (posted_at (server_end s)) _ _ accepts.longer) (server_packets s) h.down;
        up = h.up;
        came_down = h.came_down;
        came_up = posted-items (posted_at (client_end u)) (seen_up p).events (came_of (server_end s)) posted h.came_up;
        moves = accepts.moves;
        narrow = h.narrow;
        legal = took-legal t.kinds s p room meets.within h.legal;
        ghosts = h.ghosts;
      }

  given-down : (s : List ServerEvent) (u : List ClientEvent) (k : ℕ) (o : Option ServerPacket) → slice_get (server_packets s) k ≡ o → Carried t s u → Carried t s (given_down t.config o u)
  given-down s u k None e h = h
  given-down s u k (Some p) e h =
      let d : IsDown t (posted_at (server_end s)) (length (accepted_at t.config s)) p = all-at (IsDown t (posted_at (server_end s)) (length (accepted_at t.config s))) (server_packets s) k p h.down e in
      took-down s u p (client_log.packet_check t.config u p) d.fits d.posted d.tells h

  given-up : (s : List ServerEvent) (u : List ClientEvent) (k room : ℕ) (o : Option ClientPacket) → slice_get (client_packets u) k ≡ o → Carried t s u → Carried t (given_up t.config room o s) u
  given-up s u k room None e h = h
  given-up s u k room (Some p) e h =
      let d : IsUp (wire_of t.config) (posted_at (client_end u)) (sampled_at u) p = all-at (IsUp (wire_of t.config) (posted_at (client_end u)) (sampled_at u)) (client_packets u) k p h.up e in
      took-up s u room p (server_log.packet_check t.config s p) refl d.fits d.posted d.moves h

  -- ---- all steps

  pub absorbed-step : (steps : List PairStep) (drains : List Drain) (reads : List Read) → IsGoodStep t steps (Pack drains reads) → Carried t (history t steps).server (history t steps).client → Carried t (absorbing drains (history t steps).server) (history t steps).client
  absorbed-step steps drains reads step h =
      absorbs-down drains (history t steps).server (history t steps).client (all-drained t (history t steps).server (server_state t.config (history t steps).server) drains step.met.0) h

  pub carried : (steps : List PairStep) → AreGood t steps → Carried t (history t steps).server (history t steps).client
  carried [] fit = start
  carried (Show kind block level control ∷ steps) fit = scoped (server_log.Show kind block level control) (history t steps).server (history t steps).client fit.0.met.ranges (carried steps fit.1)
  carried (Hide n ∷ steps) fit = scoped (server_log.Hide n) (history t steps).server (history t steps).client fit.0.met (carried steps fit.1)
  carried (Near n level ∷ steps) fit = scoped (server_log.Near n level) (history t steps).server (history t steps).client (fit.0.met.up, fit.0.met.level) (carried steps fit.1)
  carried (Post class v ∷ steps) fit = posts-down class v (history t steps).server (history t steps).client fit.0.ranges (carried steps fit.1)
  carried (ClientPost class v ∷ steps) fit = posts-up class v (history t steps).server (history t steps).client fit.0.ranges (carried steps fit.1)
  carried (Sample m ∷ steps) fit = samples-up m (history t steps).server (history t steps).client (carried steps fit.1)
  carried (Pack drains reads ∷ steps) fit =
      packs-down (absorbing drains (history t steps).server) (history t steps).client (values_of reads) (reads-fit t (history t steps).server drains reads fit.0.met.1) (absorbed-step steps drains reads fit.0 (carried steps fit.1))
  carried (ClientPack ∷ steps) fit = packs-up (history t steps).server (history t steps).client (carried steps fit.1)
  carried (Down k ∷ steps) fit = subst (Carried t (history t steps).server) (sym fit.0.read) (given-down (history t steps).server (history t steps).client k (slice_get (server_packets (history t steps).server) k) refl (carried steps fit.1))
  carried (Up k room ∷ steps) fit = subst (λ (s : List ServerEvent). Carried t s (history t steps).client) (sym fit.0.read) (given-up (history t steps).server (history t steps).client k room (slice_get (client_packets (history t steps).client) k) refl (carried steps fit.1))
  carried (Raw bytes room ∷ steps) fit = absurd fit.0.honest

  -- behind what a pack absorbs
  pub carried-absorbed : (steps : List PairStep) (drains : List Drain) (reads : List Read) → IsGoodStep t steps (Pack drains reads) → AreGood t steps → Carried t (absorbing drains (history t steps).server) (history t steps).client
  carried-absorbed steps drains reads step fit = absorbed-step steps drains reads step (carried steps fit)
