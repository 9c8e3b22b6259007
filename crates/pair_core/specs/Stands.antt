-- The tie between a pair and its steps.
use Rattle.std.specs.Prelude.{◌≡◌, ℕ, Bool, List, length}
use Rattle.tn_types.specs.declared.choices.End.{End}
use Rattle.tn_types.specs.declared.choices.End.TheVariants.{Server, Client}
use Rattle.conn_packing.specs.stream_manager.Limits.{Terms}
use Rattle.conn_packing.specs.stream_manager.Stands.{ConnState, ConnStandsFor, terms_of, ClientState, ClientStandsFor}
use Rattle.conn_packing.specs.stream_manager.Server.{server_datagrams}
use Rattle.conn_packing.specs.stream_manager.Client.{client_datagrams}
use Rattle.pair_core.specs.History.{PairStep, history}
use Rattle.pair_core.specs.Keeping.{kept}

pub record PairState : Type 0 where
  pub conn : ConnState
  pub client : ClientState
  pub down : List (List ℕ)  -- those that are kept
  pub up : List (List ℕ)
  pub prepared : Bool  -- there is room for the datagram of one more step
  pub keeps_all : Bool  -- each datagram of the server is kept, or else the newest alone
  pub sent : ℕ  -- so many datagrams the server sent

-- the datagrams that an end sent, as far as they are kept
abbrev pub sent_by : End → PairState → List (List ℕ)
sent_by Server p = p.down
sent_by Client p = p.up

pub record StandsFor (p : PairState) (t : Terms) (steps : List PairStep) : Type 0 where
  pub terms : terms_of p.conn ≡ t
  pub client_config : p.client.common.config ≡ t.config
  pub client_kinds : p.client.copies.kinds ≡ t.kinds
  pub conn : ConnStandsFor p.conn (history t steps).server
  pub client : ClientStandsFor p.client (history t steps).client
  pub down : p.down ≡ kept p.keeps_all (server_datagrams t (history t steps).server)
  pub sent : p.sent ≡ length (server_datagrams t (history t steps).server)
  pub up : p.up ≡ client_datagrams t.config (history t steps).client
