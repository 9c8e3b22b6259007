-- What the window of an end has seen stays, whatever steps come later.
use Rattle.std.proofs.Common.{◌≡◌, ℕ, Bool, true, false, List, [], ◌∷◌, ◌++◌, Option, Some, None, Result, Ok, Err, if◌then◌else◌, refl, ap}
use Rattle.std.specs.Prelude.{slice_get, ℤ}
use Rattle.tn_types.specs.declared.choices.Drain.{Drain}
use Rattle.std.specs.Result.{is_ok}
use Rattle.tn_types.specs.declared.choices.Class.{Class}
use Rattle.tn_types.specs.declared.choices.Class.TheVariants.{Guaranteed, Loose}
use Rattle.tn_types.specs.declared.moves.MoveBits.{MoveBits}
use Rattle.notify_window.specs.declared.SendState.{SendState}
use Rattle.notify_window.specs.declared.SendState.TheVariants.{Held, Worn, Room}
use Rattle.notify_window.specs.Log.{WindowEvent}
use Rattle.wire_format.specs.declared.server.ServerPacket.{ServerPacket}
use Rattle.wire_format.specs.declared.client.ClientPacket.{ClientPacket}
use Rattle.conn_packing.specs.stream_manager.declared.fault.ArriveFault.{ArriveFault}
use Rattle.conn_packing.specs.stream_manager.declared.fault.ClientFault.{ClientFault}
use Rattle.conn_packing.specs.stream_manager.Limits.{Terms}
use Rattle.conn_packing.specs.stream_manager.End.{window_log, with_event}
use Rattle.conn_packing.specs.stream_manager.Server as server_log
use Rattle.conn_packing.specs.stream_manager.Server.{ServerEvent, server_end, server_datagrams, server_state, server_answer, posted_at_server, took_at_server}
use Rattle.conn_packing.specs.stream_manager.Client as client_log
use Rattle.conn_packing.specs.stream_manager.Client.{ClientEvent, client_end, client_datagrams, client_state, client_answer, posted_at_client, sampled_answer, took_at_client}
use Rattle.conn_packing.specs.Packs.{absorbing, values_of}
use Rattle.pair_core.specs.History.{PairStep, Show, Hide, Near, Post, ClientPost, Sample, Pack, ClientPack, Down, Up, Raw, history, server_posts, client_posts, client_samples, client_gets, server_gets}

-- new is old with more events
abbrev pub Grew : List WindowEvent → List WindowEvent → Type 0
Grew old new = (more : List WindowEvent) × (new ≡ more ++ old)

grew-more : (e : WindowEvent) (old new : List WindowEvent) → Grew old new → Grew old (e ∷ new)
grew-more e old new g = (e ∷ g.0, ap (λ (l : List WindowEvent). e ∷ l) g.1)

module _ (t : Terms) (old : List WindowEvent) where
  abbrev ServerGrew : List ServerEvent → Type 0
  ServerGrew s = Grew old (window_log (server_end s))

  abbrev ClientGrew : List ClientEvent → Type 0
  ClientGrew u = Grew old (window_log (client_end u))

  server-posts : (class : Class) (v : List ℕ) (s : List ServerEvent) → ServerGrew s → ServerGrew (server_posts t.config class v s)
  server-posts Loose v s g = g
  server-posts Guaranteed v s g = go (is_ok (posted_at_server t.config s))
    where
      go : (b : Bool) → ServerGrew (if b then server_log.Posted Guaranteed v ∷ s else s)
      go true = g
      go false = g

  client-posts : (class : Class) (v : List ℕ) (u : List ClientEvent) → ClientGrew u → ClientGrew (client_posts t.config class v u)
  client-posts Loose v u g = g
  client-posts Guaranteed v u g = go (is_ok (posted_at_client t.config u))
    where
      go : (b : Bool) → ClientGrew (if b then client_log.Posted Guaranteed v ∷ u else u)
      go true = g
      go false = g

  client-samples : (m : MoveBits) (u : List ClientEvent) → ClientGrew u → ClientGrew (client_samples t.config m u)
  client-samples m u g = go (is_ok (sampled_answer t.config m u))
    where
      go : (b : Bool) → ClientGrew (if b then client_log.Sampled m ∷ u else u)
      go true = g
      go false = g

  server-absorbs : (drains : List Drain) (s : List ServerEvent) → ServerGrew s → ServerGrew (absorbing drains s)
  server-absorbs [] s g = g
  server-absorbs (d ∷ drains) s g = server-absorbs drains (server_log.Scoped (server_log.Absorb d.n d.bits) ∷ s) g

  server-packs : (values : List ℤ) (s : List ServerEvent) → ServerGrew s → ServerGrew (server_log.packing t s values)
  server-packs values s g = go (server_state t.config s)
    where
      go : (state : SendState) → ServerGrew (server_log.packed_onto t s values state)
      go Held = g
      go Worn = g
      go Room = grew-more _ old (window_log (server_end s)) g

  client-packs : (u : List ClientEvent) → ClientGrew u → ClientGrew (with_event (client_log.packing t.config u) u)
  client-packs u g = go (client_state t.config u)
    where
      go : (state : SendState) → ClientGrew (with_event (client_log.pack_event t.config u state) u)
      go Held = g
      go Worn = g
      go Room = grew-more _ old (window_log (client_end u)) g

  server-takes : (s : List ServerEvent) (room : ℕ) (o : Option (List ℕ)) → ServerGrew s → ServerGrew (server_gets t.config room o s)
  server-takes s room None g = g
  server-takes s room (Some bytes) g = go (server_answer t.config s bytes)
    where
      go : (a : Result ClientPacket ArriveFault) → ServerGrew (took_at_server s room a)
      go (Ok p) = grew-more _ old _ (grew-more _ old (window_log (server_end s)) g)
      go (Err e) = g

  client-takes : (u : List ClientEvent) (o : Option (List ℕ)) → ClientGrew u → ClientGrew (client_gets t o u)
  client-takes u None g = g
  client-takes u (Some bytes) g = go (client_answer t.config t.kinds u bytes)
    where
      go : (a : Result ServerPacket ClientFault) → ClientGrew (took_at_client u a)
      go (Ok p) = grew-more _ old _ (grew-more _ old (window_log (client_end u)) g)
      go (Err e) = g

pub server-grew : (t : Terms) (later steps : List PairStep) → Grew (window_log (server_end (history t steps).server)) (window_log (server_end (history t (later ++ steps)).server))
server-grew t [] steps = ([], refl)
server-grew t (Post class v ∷ later) steps = server-posts t _ class v (history t (later ++ steps)).server (server-grew t later steps)
server-grew t (ClientPost class v ∷ later) steps = server-grew t later steps
server-grew t (Sample m ∷ later) steps = server-grew t later steps
server-grew t (Show kind block level control ∷ later) steps = server-grew t later steps
server-grew t (Hide n ∷ later) steps = server-grew t later steps
server-grew t (Near n level ∷ later) steps = server-grew t later steps
server-grew t (Pack drains reads ∷ later) steps = server-packs t _ (values_of reads) (absorbing drains (history t (later ++ steps)).server) (server-absorbs t _ drains (history t (later ++ steps)).server (server-grew t later steps))
server-grew t (Raw bytes room ∷ later) steps = server-takes t _ (history t (later ++ steps)).server room (Some bytes) (server-grew t later steps)
server-grew t (ClientPack ∷ later) steps = server-grew t later steps
server-grew t (Down k ∷ later) steps = server-grew t later steps
server-grew t (Up k room ∷ later) steps = server-takes t _ (history t (later ++ steps)).server room (slice_get (client_datagrams t.config (history t (later ++ steps)).client) k) (server-grew t later steps)

pub client-grew : (t : Terms) (later steps : List PairStep) → Grew (window_log (client_end (history t steps).client)) (window_log (client_end (history t (later ++ steps)).client))
client-grew t [] steps = ([], refl)
client-grew t (Post class v ∷ later) steps = client-grew t later steps
client-grew t (ClientPost class v ∷ later) steps = client-posts t _ class v (history t (later ++ steps)).client (client-grew t later steps)
client-grew t (Sample m ∷ later) steps = client-samples t _ m (history t (later ++ steps)).client (client-grew t later steps)
client-grew t (Show kind block level control ∷ later) steps = client-grew t later steps
client-grew t (Hide n ∷ later) steps = client-grew t later steps
client-grew t (Near n level ∷ later) steps = client-grew t later steps
client-grew t (Pack drains reads ∷ later) steps = client-grew t later steps
client-grew t (Raw bytes room ∷ later) steps = client-grew t later steps
client-grew t (ClientPack ∷ later) steps = client-packs t _ (history t (later ++ steps)).client (client-grew t later steps)
client-grew t (Down k ∷ later) steps = client-takes t _ (history t (later ++ steps)).client (slice_get (server_datagrams t (history t (later ++ steps)).server) k) (client-grew t later steps)
client-grew t (Up k room ∷ later) steps = client-grew t later steps
