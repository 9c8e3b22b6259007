-- A guaranteed post, taken up or refused, at either end.
use Rattle.std.proofs.Common.{◌≡◌, ◌∙◌, ℕ, true, false, List, ◌∷◌, Result, Ok, Err, sym, ap, subst}
use Rattle.std.specs.Prelude.{OnOk, OnErr}
use Rattle.std.specs.Result.{is_ok}
use Rattle.tn_types.specs.declared.choices.Class.TheVariants.{Guaranteed}
use Rattle.event_manager.specs.declared.sender.PostFault.{PostFault}
use Rattle.conn_packing.specs.stream_manager.Limits.{Terms}
use Rattle.conn_packing.specs.stream_manager.Stands.{ConnState, ConnStandsFor, terms_of, ClientState, ClientStandsFor}
use Rattle.conn_packing.specs.stream_manager.Server as server
use Rattle.conn_packing.specs.stream_manager.Server.{posted_at_server}
use Rattle.conn_packing.specs.stream_manager.Client as client
use Rattle.conn_packing.specs.stream_manager.Client.{posted_at_client}
use Rattle.conn_packing.specs.stream_manager.ClientCalls.{KeepsTerms}
use Rattle.pair_core.specs.History.{PairStep, Post, ClientPost, history}
use Rattle.pair_core.specs.Stands.{PairState, StandsFor}

module _ (p : PairState) (t : Terms) (steps : List PairStep) (v : List ℕ) (h : StandsFor p t steps) where
  pub server_posted : (new : ConnState) (r : Result ℕ PostFault) → r ≡ posted_at_server t.config (history t steps).server
      → OnOk r ((log : List server.ServerEvent) → ConnStandsFor p.conn log → ConnStandsFor new (server.Posted Guaranteed v ∷ log)) → OnErr r (new ≡ p.conn) → terms_of new ≡ terms_of p.conn
      → StandsFor (record p { conn = new }) t (Post Guaranteed v ∷ steps)
  server_posted new (Ok n) is stands same keeps =
      let took : is_ok (posted_at_server t.config (history t steps).server) ≡ true = ap (λ (x : Result ℕ PostFault). is_ok x) (sym is) in
      record {
        terms = keeps ∙ h.terms;
        client_config = h.client_config;
        client_kinds = h.client_kinds;
        conn = rw took (stands (history t steps).server h.conn);
        client = h.client;
        down = rw took h.down;
        sent = rw took h.sent;
        up = h.up;
      }
  server_posted new (Err e) is stands same keeps =
      let refused : is_ok (posted_at_server t.config (history t steps).server) ≡ false = ap (λ (x : Result ℕ PostFault). is_ok x) (sym is) in
      record {
        terms = keeps ∙ h.terms;
        client_config = h.client_config;
        client_kinds = h.client_kinds;
        conn = rw refused (subst (λ (x : ConnState). ConnStandsFor x (history t steps).server) (sym same) h.conn);
        client = h.client;
        down = rw refused h.down;
        sent = rw refused h.sent;
        up = h.up;
      }

  pub client_posted : (new : ClientState) (r : Result ℕ PostFault) → r ≡ posted_at_client t.config (history t steps).client
      → OnOk r ((log : List client.ClientEvent) → ClientStandsFor p.client log → ClientStandsFor new (client.Posted Guaranteed v ∷ log)) → OnErr r (new ≡ p.client) → KeepsTerms p.client new
      → StandsFor (record p { client = new }) t (ClientPost Guaranteed v ∷ steps)
  client_posted new (Ok n) is stands same keeps =
      let took : is_ok (posted_at_client t.config (history t steps).client) ≡ true = ap (λ (x : Result ℕ PostFault). is_ok x) (sym is) in
      record {
        terms = h.terms;
        client_config = keeps.config ∙ h.client_config;
        client_kinds = keeps.kinds ∙ h.client_kinds;
        conn = h.conn;
        client = rw took (stands (history t steps).client h.client);
        down = h.down;
        sent = h.sent;
        up = rw took h.up;
      }
  client_posted new (Err e) is stands same keeps =
      let refused : is_ok (posted_at_client t.config (history t steps).client) ≡ false = ap (λ (x : Result ℕ PostFault). is_ok x) (sym is) in
      record {
        terms = h.terms;
        client_config = keeps.config ∙ h.client_config;
        client_kinds = keeps.kinds ∙ h.client_kinds;
        conn = h.conn;
        client = rw refused (subst (λ (x : ClientState). ClientStandsFor x (history t steps).client) (sym same) h.client);
        down = h.down;
        sent = h.sent;
        up = rw refused h.up;
      }
