-- Each datagram that was sent reads as its packet where it comes, after all steps that were met before. So a delivery hands over the
-- packet that was sent at its place, and nothing more has to be asked of steps than what they are made with and who is honest.
use Rattle.std.proofs.Common.{◌∙◌, List, [], ◌∷◌, length, refl, ap, subst}
use Rattle.std.specs.List.{AllByRecursion}
use Rattle.conn_packing.specs.stream_manager.Limits.{Terms, AreTerms, wire_of}
use Rattle.conn_packing.specs.stream_manager.Server.{ServerEvent, server_end, seen_client_body, accepted_at}
use Rattle.conn_packing.specs.stream_manager.Client.{ClientEvent, client_end, sampled_at}
use Rattle.wire_logs.specs.event_logs.Joined as events
use Rattle.wire_logs.proofs.Below.event_logs.Came.{finds-numbers}
use Rattle.wire_logs.specs.ghost_logs.Ends.{AreJoined}
use Rattle.wire_logs.proofs.Held.{held-of_table}
use Rattle.wire_logs.proofs.Readable.{readable}
use Rattle.pair_core.specs.History.{PairStep, Show, Hide, Near, Post, ClientPost, Sample, Pack, ClientPack, Down, Up, Raw, at_server, at_client, history}
use Rattle.pair_core.specs.Conditions.{AreMet, IsHonest}
use Rattle.pair_core.specs.Conditions.{StepFits}
use Rattle.pair_laws.specs.Laws.{posted_at}
use Rattle.conn_packing.proofs.Lists.{all-both}
use Rattle.pair_laws.specs.Exchange.{server_packets, client_packets, exchanges, IsExchange}
use Rattle.pair_laws.proofs.Packets.{IsReadDown, IsReadUp, delivered-down, delivered-up}
use Rattle.pair_laws.proofs.Good.{IsReadAt, AreGood}
use Rattle.pair_laws.proofs.Carried.{Carried, IsDown, IsUp, carried}
use Rattle.pair_laws.proofs.Joined.{WasSent, Joins, joins, joined}
use Rattle.pair_laws.proofs.JoinedUp.{WasSentUp, AreJoinedUp, joins-up, joined-up}
use Rattle.pair_laws.proofs.Spelled.{reads-down, reads-up}

module _ (t : Terms) (s : List ServerEvent) (u : List ClientEvent) (c : Carried t s u) where
  -- a datagram that was sent, at this client
  all-down : Joins t s u → AreJoined t s u → AllByRecursion (IsReadDown t u) (server_packets s)
  all-down j joined =
      all-both (IsDown t (posted_at (server_end s)) (length (accepted_at t.config s))) (WasSent s) (IsReadDown t u)
      (λ p d sent. reads-down t u (held-of_table t.kinds u c.ghosts) p d.fits (λ q is newer. readable t s u c.legal joined q (subst (WasSent s) is sent) newer))
      (server_packets s) c.down j.sent

  -- and at this server
  all-up : AreJoinedUp s u → events.AreJoined (client_end u) (server_end s) → AllByRecursion (IsReadUp t.config s) (client_packets u)
  all-up j joined =
      all-both (IsUp (wire_of t.config) (posted_at (client_end u)) (sampled_at u)) (WasSentUp (client_end u)) (IsReadUp t.config s)
      (λ p d sent. reads-up t.config s p d.fits (λ q is newer. finds-numbers (client_end u) (server_end s) joined (seen_client_body q) (subst (WasSentUp (client_end u)) is sent) newer))
      (client_packets u) c.up j.sent

module _ (t : Terms) (limits : AreTerms t) where
  pub read-down : (steps : List PairStep) → AreGood t steps → AllByRecursion (IsReadDown t (history t steps).client) (server_packets (history t steps).server)
  read-down steps fit =
      all-down t (history t steps).server (history t steps).client (carried t limits steps fit) (joins t limits steps fit) (joined t limits steps fit)

  pub read-up : (steps : List PairStep) → AreGood t steps → AllByRecursion (IsReadUp t.config (history t steps).server) (client_packets (history t steps).client)
  read-up steps fit =
      all-up t (history t steps).server (history t steps).client (carried t limits steps fit) (joins-up t limits steps fit) (joined-up t limits steps fit)

  read-at : (steps : List PairStep) → AreGood t steps → (step : PairStep) → IsReadAt t (history t steps) step
  read-at steps fit (Down k) = delivered-down t (history t steps).server (history t steps).client k (read-down steps fit)
  read-at steps fit (Up k room) = delivered-up t.config (history t steps).server (history t steps).client k room (read-up steps fit)
  read-at steps fit (Show kind block level control) = tt
  read-at steps fit (Hide n) = tt
  read-at steps fit (Near n level) = tt
  read-at steps fit (Post class v) = tt
  read-at steps fit (ClientPost class v) = tt
  read-at steps fit (Sample m) = tt
  read-at steps fit (Pack drains reads) = tt
  read-at steps fit ClientPack = tt
  read-at steps fit (Raw bytes room) = tt

  pub good : (steps : List PairStep) → AllByRecursion StepFits steps → AreMet t steps → IsHonest steps → AreGood t steps
  good [] fit met honest = tt
  good (step ∷ steps) fit met honest =
      let before = good steps fit.1 met.1 honest.1 in
      (record { ranges = fit.0; met = met.0; honest = honest.0; read = read-at steps before step }, before)

-- ---- packets are exchanged

pub is-exchange : (t : Terms) (steps : List PairStep) → AreGood t steps → IsExchange t steps
is-exchange t [] fit = refl
is-exchange t (Down k ∷ steps) fit = ap (at_client (history t steps)) fit.0.read ∙ ap (exchanges t (Down k)) (is-exchange t steps fit.1)
is-exchange t (Up k room ∷ steps) fit = ap (at_server (history t steps)) fit.0.read ∙ ap (exchanges t (Up k room)) (is-exchange t steps fit.1)
is-exchange t (Show kind block level control ∷ steps) fit = ap (exchanges t (Show kind block level control)) (is-exchange t steps fit.1)
is-exchange t (Hide n ∷ steps) fit = ap (exchanges t (Hide n)) (is-exchange t steps fit.1)
is-exchange t (Near n level ∷ steps) fit = ap (exchanges t (Near n level)) (is-exchange t steps fit.1)
is-exchange t (Post class v ∷ steps) fit = ap (exchanges t (Post class v)) (is-exchange t steps fit.1)
is-exchange t (ClientPost class v ∷ steps) fit = ap (exchanges t (ClientPost class v)) (is-exchange t steps fit.1)
is-exchange t (Sample m ∷ steps) fit = ap (exchanges t (Sample m)) (is-exchange t steps fit.1)
is-exchange t (Pack drains reads ∷ steps) fit = ap (exchanges t (Pack drains reads)) (is-exchange t steps fit.1)
is-exchange t (ClientPack ∷ steps) fit = ap (exchanges t ClientPack) (is-exchange t steps fit.1)
is-exchange t (Raw bytes room ∷ steps) fit = absurd fit.0.honest
