-- What a pair stands for after a delivery.
use Rattle.std.proofs.Common.{◌≡◌, ℕ, List, ◌∷◌, ◌++◌, Some, None, Result, Ok, Err, refl, sym, subst, ap, ◌∙◌, true, length}
use Rattle.std.specs.Prelude.{slice_get, Option}
use Rattle.wire_format.specs.declared.client.ClientPacket.{ClientPacket}
use Rattle.wire_format.specs.declared.server.ServerPacket.{ServerPacket}
use Rattle.conn_packing.specs.stream_manager.declared.config.Config.{Config}
use Rattle.conn_packing.specs.stream_manager.declared.fault.ArriveFault.{ArriveFault}
use Rattle.conn_packing.specs.stream_manager.declared.fault.ClientFault.{ClientFault}
use Rattle.quantised_fields.specs.declared.kind.Kind.{Kind}
use Rattle.conn_packing.specs.stream_manager.Limits.{Terms}
use Rattle.tn_types.specs.Checks.{Checked}
use Rattle.conn_packing.specs.stream_manager.declared.server.Taken.{Taken}
use Rattle.conn_packing.specs.stream_manager.ConnCalls.{Answers as AnswersServer, Hands as HandsServer, Accepts as AcceptsServer}
use Rattle.conn_packing.specs.stream_manager.ClientCalls.{KeepsTerms, Answers as AnswersClient, Hands as HandsClient}
use Rattle.conn_packing.specs.stream_manager.End.{delivered_at}
use Rattle.conn_packing.specs.stream_manager.Stands.{ConnState, ConnStandsFor, terms_of, ClientState, ClientStandsFor}
use Rattle.conn_packing.specs.stream_manager.Server as server
use Rattle.conn_packing.specs.stream_manager.Server.{ServerEvent, server_end, accepted_at, server_datagrams, server_answer, took_at_server}
use Rattle.conn_packing.specs.stream_manager.Client as client
use Rattle.conn_packing.specs.stream_manager.Client.{ClientEvent, client_end, client_datagrams, client_answer, took_at_client}
use Rattle.pair_core.specs.History.{PairStep, Down, Up, Raw, history, client_gets, server_gets}
use Rattle.pair_core.specs.Answers.{answer, came_down, brought_down, came_up, brought_up, client_delivered, server_delivered, accepted_in}
use Rattle.pair_core.specs.Stands.{PairState, StandsFor}
use Rattle.pair_core.specs.Keeping.{kept}
use Rattle.pair_core.proofs.Keeping.{all-kept}

-- an arrival sends nothing
took_sends_up : (c : Config) (log : List ClientEvent) (a : Result ServerPacket ClientFault) → client_datagrams c (took_at_client log a) ≡ client_datagrams c log
took_sends_up c log (Ok p) = refl
took_sends_up c log (Err e) = refl

took_sends_down : (t : Terms) (log : List ServerEvent) (room : ℕ) (a : Result ClientPacket ArriveFault) → server_datagrams t (took_at_server log room a) ≡ server_datagrams t log
took_sends_down t log room (Ok p) = refl
took_sends_down t log room (Err e) = refl

pub gets_sends_up : (t : Terms) (o : Option (List ℕ)) (log : List ClientEvent) → client_datagrams t.config (client_gets t o log) ≡ client_datagrams t.config log
gets_sends_up t None log = refl
gets_sends_up t (Some bytes) log = took_sends_up t.config log (client_answer t.config t.kinds log bytes)

pub gets_sends_down : (t : Terms) (room : ℕ) (o : Option (List ℕ)) (log : List ServerEvent) → server_datagrams t (server_gets t.config room o log) ≡ server_datagrams t log
gets_sends_down t room None log = refl
gets_sends_down t room (Some bytes) log = took_sends_down t log room (server_answer t.config log bytes)

pub down_stands : (p : PairState) (new : ClientState) (t : Terms) (steps : List PairStep) (k : ℕ) (bytes : List ℕ) → p.keeps_all ≡ true → slice_get p.down k ≡ Some bytes → KeepsTerms p.client new
    → ((log : List ClientEvent) → ClientStandsFor p.client log → ClientStandsFor new (took_at_client log (client_answer p.client.common.config p.client.copies.kinds log bytes)))
    → StandsFor p t steps → StandsFor (record { conn = p.conn; client = new; down = p.down; up = p.up; prepared = p.prepared; keeps_all = p.keeps_all; sent = p.sent }) t (Down k ∷ steps)
down_stands p new t steps k bytes all there keeps gets s =
    let sent : slice_get (server_datagrams t (history t steps).server) k ≡ Some bytes = ap (λ (l : List (List ℕ)). slice_get l k) (sym (all-kept p t steps s all)) ∙ there in
    let kinds : ClientStandsFor new (took_at_client (history t steps).client (client_answer p.client.common.config t.kinds (history t steps).client bytes)) =
    subst (λ (x : List Kind). ClientStandsFor new (took_at_client (history t steps).client (client_answer p.client.common.config x (history t steps).client bytes))) s.client_kinds (gets (history t steps).client s.client) in
    let now : ClientStandsFor new (client_gets t (Some bytes) (history t steps).client) =
    subst (λ (x : Config). ClientStandsFor new (took_at_client (history t steps).client (client_answer x t.kinds (history t steps).client bytes))) s.client_config kinds in
    record {
      terms = s.terms;
      client_config = keeps.config ∙ s.client_config;
      client_kinds = keeps.kinds ∙ s.client_kinds;
      conn = s.conn;
      client = subst (λ (o : Option (List ℕ)). ClientStandsFor new (client_gets t o (history t steps).client)) (sym sent) now;
      down = s.down;
      sent = s.sent;
      up = s.up ∙ sym (gets_sends_up t (slice_get (server_datagrams t (history t steps).server) k) (history t steps).client);
    }

pub up_stands : (p : PairState) (new : ConnState) (t : Terms) (steps : List PairStep) (k room : ℕ) (bytes : List ℕ) → slice_get p.up k ≡ Some bytes → terms_of new ≡ terms_of p.conn
    → ((log : List ServerEvent) → ConnStandsFor p.conn log → ConnStandsFor new (took_at_server log room (server_answer p.conn.common.config log bytes)))
    → StandsFor p t steps → StandsFor (record { conn = new; client = p.client; down = p.down; up = p.up; prepared = p.prepared; keeps_all = p.keeps_all; sent = p.sent }) t (Up k room ∷ steps)
up_stands p new t steps k room bytes there terms gets s =
    let sent : slice_get (client_datagrams t.config (history t steps).client) k ≡ Some bytes = ap (λ (l : List (List ℕ)). slice_get l k) (sym s.up) ∙ there in
    let config : p.conn.common.config ≡ t.config = ap (λ (x : Terms). x.config) s.terms in
    let now : ConnStandsFor new (server_gets t.config room (Some bytes) (history t steps).server) =
    subst (λ (x : Config). ConnStandsFor new (took_at_server (history t steps).server room (server_answer x (history t steps).server bytes))) config (gets (history t steps).server s.conn) in
    record {
      terms = terms ∙ s.terms;
      client_config = s.client_config;
      client_kinds = s.client_kinds;
      conn = subst (λ (o : Option (List ℕ)). ConnStandsFor new (server_gets t.config room o (history t steps).server)) (sym sent) now;
      client = s.client;
      down = s.down ∙ ap (kept p.keeps_all) (sym (gets_sends_down t room (slice_get (client_datagrams t.config (history t steps).client) k) (history t steps).server));
      sent = s.sent ∙ ap (λ (l : List (List ℕ)). length l) (sym (gets_sends_down t room (slice_get (client_datagrams t.config (history t steps).client) k) (history t steps).server));
      up = s.up;
    }

pub raw_stands : (p : PairState) (new : ConnState) (t : Terms) (steps : List PairStep) (bytes : List ℕ) (room : ℕ) → terms_of new ≡ terms_of p.conn
    → ((log : List ServerEvent) → ConnStandsFor p.conn log → ConnStandsFor new (took_at_server log room (server_answer p.conn.common.config log bytes)))
    → StandsFor p t steps → StandsFor (record { conn = new; client = p.client; down = p.down; up = p.up; prepared = p.prepared; keeps_all = p.keeps_all; sent = p.sent }) t (Raw bytes room ∷ steps)
raw_stands p new t steps bytes room terms gets s =
    let config : p.conn.common.config ≡ t.config = ap (λ (x : Terms). x.config) s.terms in
    record {
      terms = terms ∙ s.terms;
      client_config = s.client_config;
      client_kinds = s.client_kinds;
      conn = subst (λ (x : Config). ConnStandsFor new (took_at_server (history t steps).server room (server_answer x (history t steps).server bytes))) config (gets (history t steps).server s.conn);
      client = s.client;
      down = s.down ∙ ap (kept p.keeps_all) (sym (gets_sends_down t room (Some bytes) (history t steps).server));
      sent = s.sent ∙ ap (λ (l : List (List ℕ)). length l) (sym (gets_sends_down t room (Some bytes) (history t steps).server));
      up = s.up;
    }

-- ---- what a delivery answers, hands out and lends

module _ (p : PairState) (t : Terms) (steps : List PairStep) (s : StandsFor p t steps) where
  config : p.conn.common.config ≡ t.config
  config = ap (λ (x : Terms). x.config) s.terms

  module _ (k : ℕ) (bytes : List ℕ) (all : p.keeps_all ≡ true) (there : slice_get p.down k ≡ Some bytes) where
    sent-down : slice_get (server_datagrams t (history t steps).server) k ≡ Some bytes
    sent-down = ap (λ (l : List (List ℕ)). slice_get l k) (sym (all-kept p t steps s all)) ∙ there

    -- what the client's end was made with is what the pair was
    as-made : {A : Type 0} (f : Config → List Kind → A) → f p.client.common.config p.client.copies.kinds ≡ f t.config t.kinds
    as-made f = ap (λ (x : Config). f x p.client.copies.kinds) s.client_config ∙ ap (λ (x : List Kind). f t.config x) s.client_kinds

    pub down_answer : (r : Checked ClientFault) → AnswersClient p.client (client.arrive_answer p.client.common.config p.client.copies.kinds bytes) r → came_down r ≡ answer t steps (Down k)
    down_answer r told =
        ap came_down (told (history t steps).client s.client)
        ∙ as-made (λ x y. came_down (client.arrive_answer x y bytes (history t steps).client))
        ∙ ap (λ (o : Option (List ℕ)). brought_down t (history t steps) k o) (sym sent-down)

    pub down_handed : (new : ClientState) → HandsClient p.client (client.arriving p.client.common.config p.client.copies.kinds bytes) new
        → client_delivered t (Down k ∷ steps) ≡ client_delivered t steps ++ new.common.receiver.ready
    down_handed new hands =
        ap (λ (o : Option (List ℕ)). delivered_at (client_end (client_gets t o (history t steps).client))) sent-down
        ∙ sym (as-made (λ x y. delivered_at (client_end (client.arriving x y bytes (history t steps).client))))
        ∙ hands (history t steps).client s.client

  module _ (bytes : List ℕ) (room : ℕ) where
    pub raw_answer : (r : Result Taken ArriveFault) → AnswersServer p.conn (server.arrive_answer p.conn.common.config room bytes) r → came_up r ≡ answer t steps (Raw bytes room)
    raw_answer r told = ap came_up (told (history t steps).server s.conn) ∙ ap (λ (x : Config). came_up (server.arrive_answer x room bytes (history t steps).server)) config

    pub raw_handed : (new : ConnState) → HandsServer p.conn (server.arriving p.conn.common.config room bytes) new
        → server_delivered t (Raw bytes room ∷ steps) ≡ server_delivered t steps ++ new.common.receiver.ready
    raw_handed new hands =
        sym (ap (λ (x : Config). delivered_at (server_end (server.arriving x room bytes (history t steps).server))) config) ∙ hands (history t steps).server s.conn

    pub raw_moves : (new : ConnState) → AcceptsServer p.conn (server.arriving p.conn.common.config room bytes) new → accepted_in t (Raw bytes room ∷ steps) ≡ accepted_in t steps ++ new.taken
    raw_moves new accepts =
        subst (λ (x : Config). accepted_at x (server.arriving x room bytes (history t steps).server) ≡ accepted_at x (history t steps).server ++ new.taken) config (accepts (history t steps).server s.conn)

    module _ (k : ℕ) (there : slice_get p.up k ≡ Some bytes) where
      sent-up : slice_get (client_datagrams t.config (history t steps).client) k ≡ Some bytes
      sent-up = ap (λ (l : List (List ℕ)). slice_get l k) (sym s.up) ∙ there

      pub up_answer : (r : Result Taken ArriveFault) → AnswersServer p.conn (server.arrive_answer p.conn.common.config room bytes) r → came_up r ≡ answer t steps (Up k room)
      up_answer r told = raw_answer r told ∙ ap (λ (o : Option (List ℕ)). brought_up t (history t steps) k room o) (sym sent-up)

      pub up_handed : (new : ConnState) → HandsServer p.conn (server.arriving p.conn.common.config room bytes) new
          → server_delivered t (Up k room ∷ steps) ≡ server_delivered t steps ++ new.common.receiver.ready
      up_handed new hands = ap (λ (o : Option (List ℕ)). delivered_at (server_end (server_gets t.config room o (history t steps).server))) sent-up ∙ raw_handed new hands

      pub up_moves : (new : ConnState) → AcceptsServer p.conn (server.arriving p.conn.common.config room bytes) new → accepted_in t (Up k room ∷ steps) ≡ accepted_in t steps ++ new.taken
      up_moves new accepts = ap (λ (o : Option (List ℕ)). accepted_at t.config (server_gets t.config room o (history t steps).server)) sent-up ∙ raw_moves new accepts
