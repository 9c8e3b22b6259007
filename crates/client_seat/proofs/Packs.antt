-- What a pack tells: the datagram that it made is the newest of those that are kept.
use Rattle.std.proofs.Common.{◌≡◌, ℕ, Bool, true, refl, List, [], ◌∷◌, ◌++◌, length, Some, Result, Ok, Err, ◌∙◌, ap}
use Rattle.std.specs.Prelude.{IfOk}
use Rattle.tn_types.specs.declared.choices.Drain.{Drain}
use Rattle.tn_types.specs.declared.choices.NoMemory.{NoMemory}
use Rattle.tn_types.specs.declared.choices.PacketKind.{PacketKind}
use Rattle.tn_types.specs.declared.choices.PacketKind.TheVariants.{Ping, Body}
use Rattle.tn_types.specs.declared.choices.Read.{Read}
use Rattle.wire_format.specs.declared.server.ServerPacket.TheVariants as server_packet
use Rattle.notify_window.specs.declared.SendState.{SendState}
use Rattle.notify_window.specs.declared.SendState.TheVariants.{Held, Worn, Room}
use Rattle.stream_manager.specs.Limits.{Terms}
use Rattle.stream_manager.specs.End.{with_event, ping_head}
use Rattle.stream_manager.specs.Server as server_log
use Rattle.stream_manager.specs.Server.{ServerEvent, accepted_at, server_state, server_datagrams, next_body, server_ping_bytes}
use Rattle.stream_manager.specs.Wire.{bytes_down}
use Rattle.stream_manager.specs.Client as client_log
use Rattle.stream_manager.specs.Client.{client_state, client_datagrams, client_bytes, client_ping_bytes}
use Rattle.own_lists.specs.pair_core.declared.step.Answer.{Answer}
use Rattle.own_lists.specs.pair_core.declared.step.Answer.TheVariants as says
use Rattle.conn_packing.specs.Packs.{absorbing, values_of}
use Rattle.own_lists.specs.pair_core.History.{PairStep, Pack, ClientPack, history}
use Rattle.own_lists.specs.pair_core.Answers.{answer, made, accepted_in}
use Rattle.own_lists.specs.pair_core.Calls.{Stays}
use Rattle.conn_packing.specs.Reads.{IsReadFor}
use Rattle.own_lists.specs.pair_core.Stands.{PairState}
use Rattle.conn_packing.proofs.Absorbed.{absorbed-end, absorbed-state, absorbed-sends}
use Rattle.own_lists.specs.pair_core.Keeping.{kept, newest}
use Rattle.own_lists.proofs.Below.pair_core.Keeping.{newest-kept}
use Rattle.tn_types.specs.declared.choices.End.{End}
use Rattle.tn_types.specs.declared.choices.End.TheVariants.{Server, Client}
use Rattle.match_report.specs.declared.told.Told.{Told}
use Rattle.match_report.specs.declared.told.Told.TheVariants as told_as
use Rattle.own_lists.specs.Course.{Course, with_step}
use Rattle.client_seat.specs.Told.{made_told, client_made_told, packed_told, client_pack_told}
use Rattle.client_seat.specs.Stands.{SeatState, StandsFor, Becomes, Packs}
use Rattle.client_seat.proofs.Making.{with_pair}

at-end : (b : Bool) (ds left : List (List ℕ)) (bytes : List ℕ) → left ≡ kept b (ds ++ bytes ∷ []) → newest left ≡ Some bytes
at-end b ds left bytes f = ap newest f ∙ newest-kept b ds bytes

-- what is told where nothing was made, and where the newest datagram of this list was
abbrev IfWorn : Result Told NoMemory → Answer → End → ℕ → Type 0
IfWorn r a end c = (life : ℕ) → a ≡ says.Worn life → IfOk r (λ told. told ≡ told_as.PackWorn end c life)

abbrev IfMade : Result Told NoMemory → Answer → End → ℕ → List (List ℕ) → Type 0
IfMade r a end c l = (kind : PacketKind) (place : ℕ) (bytes : List ℕ) → a ≡ says.Packed kind place → newest l ≡ Some bytes → IfOk r (λ told. told ≡ told_as.Packed end c place kind bytes)

module _ (t : Terms) (steps : List PairStep) (c : ℕ) (r : Result Told NoMemory) (a : Answer) (l : List (List ℕ)) (b : Bool) (drains : List Drain) (reads : List Read) where
  -- what was sent before
  abbrev before : List (List ℕ)
  before = server_datagrams t (history t steps).server

  abbrev absorbed : List ServerEvent
  absorbed = absorbing drains (history t steps).server

  pub server-packs : a ≡ answer t steps (Pack drains []) → l ≡ kept b (server_datagrams t (history t (Pack drains reads ∷ steps)).server) → IfWorn r a Server c → IfMade r a Server c l → IfOk r (λ told. told ≡ packed_told c t steps drains reads)
  server-packs e sent worn there =
      go (server_state t.config (history t steps).server) e (sent ∙ ap (λ (state : SendState). kept b (server_datagrams t (server_log.packed_onto t absorbed (values_of reads) state))) (absorbed-state t.config drains (history t steps).server))
    where
      go : (state : SendState) → a ≡ made state t.config.life (length before) → l ≡ kept b (server_datagrams t (server_log.packed_onto t absorbed (values_of reads) state)) → IfOk r (λ told. told ≡ made_told t (history t steps).server c drains reads state)
      go Held e sent =
          there Ping (length before) (server_ping_bytes t (history t steps).server) e
          (at-end b before l (server_ping_bytes t (history t steps).server)
          (sent ∙ (λ j. kept b (absorbed-sends t drains (history t steps).server j ++ bytes_down t (server_packet.Ping (ping_head t.config.client (absorbed-end drains (history t steps).server j))) ∷ []))))
      go Worn e sent = worn t.config.life e
      go Room e sent =
          there Body (length before) (bytes_down t (server_packet.Body (next_body t absorbed (values_of reads)))) e
          (at-end b before l (bytes_down t (server_packet.Body (next_body t absorbed (values_of reads))))
          (sent ∙ ap (λ (ds : List (List ℕ)). kept b (ds ++ bytes_down t (server_packet.Body (next_body t absorbed (values_of reads))) ∷ [])) (absorbed-sends t drains (history t steps).server)))

module _ (t : Terms) (steps : List PairStep) (c : ℕ) (r : Result Told NoMemory) (a : Answer) (l : List (List ℕ)) where
  pub client-packs : a ≡ answer t steps ClientPack → l ≡ client_datagrams t.config (history t (ClientPack ∷ steps)).client → IfWorn r a Client c → IfMade r a Client c l → IfOk r (λ told. told ≡ client_pack_told c t steps)
  client-packs e sent worn there = go (client_state t.config (history t steps).client) e sent
    where
      go : (state : SendState) → a ≡ made state t.config.life (length (client_datagrams t.config (history t steps).client)) → l ≡ client_datagrams t.config (with_event (client_log.pack_event t.config (history t steps).client state) (history t steps).client) → IfOk r (λ told. told ≡ client_made_told t.config (history t steps).client c state)
      go Held e sent = there Ping (length (client_datagrams t.config (history t steps).client)) (client_ping_bytes t.config (history t steps).client) e (at-end true (client_datagrams t.config (history t steps).client) l (client_ping_bytes t.config (history t steps).client) sent)
      go Worn e sent = worn t.config.life e
      go Room e sent = there Body (length (client_datagrams t.config (history t steps).client)) (client_bytes t.config (history t steps).client) e (at-end true (client_datagrams t.config (history t steps).client) l (client_bytes t.config (history t steps).client) sent)

-- ---- it brings no move

absorbed-moves : (t : Terms) (drains : List Drain) (log : List ServerEvent) → accepted_at t.config (absorbing drains log) ≡ accepted_at t.config log
absorbed-moves t [] log = refl
absorbed-moves t (d ∷ drains) log = absorbed-moves t drains (server_log.Scoped (server_log.Absorb d.n d.bits) ∷ log)

pub none_by_pack : (drains : List Drain) (reads : List Read) (t : Terms) (steps : List PairStep) → accepted_in t (Pack drains reads ∷ steps) ≡ accepted_in t steps
none_by_pack drains reads t steps = by (server_state t.config (absorbing drains (history t steps).server)) ∙ absorbed-moves t drains (history t steps).server
  where
    by : (state : SendState) → accepted_at t.config (server_log.packed_onto t (absorbing drains (history t steps).server) (values_of reads) state) ≡ accepted_at t.config (absorbing drains (history t steps).server)
    by Held = refl
    by Worn = refl
    by Room = refl

-- ---- the same of a seat

pub prepared : (s : SeatState) (pair : PairState) → Stays s.pair pair → pair ≡ record s.pair { prepared = true } → Becomes s (λ t k. k) (with_pair s pair)
prepared s pair stays is t k h = record {
  holds = record { pair = stays t k.steps h.holds.pair; waiting = h.holds.waiting; taken = h.holds.taken; few = h.holds.few };
  quiet_server = ap (λ (p : PairState). p.conn.common.receiver.ready) is ∙ h.quiet_server;
  quiet_client = ap (λ (p : PairState). p.client.common.receiver.ready) is ∙ h.quiet_client;
}

-- for all courses at once
pub all-ok : (r : Result Told NoMemory) (s : SeatState) (f : Terms → Course → Told) → ((t : Terms) (k : Course) → StandsFor s t k → IfOk r (λ told. told ≡ f t k)) → IfOk r (λ told. (t : Terms) (k : Course) → StandsFor s t k → told ≡ f t k)
all-ok (Ok told) s f h = h
all-ok (Err e) s f h = tt

module _ (r : Result Told NoMemory) (old new : SeatState) (drains : List Drain) (reads : List Read) (c : ℕ) (A : List Read → Type 0) where
  pub pack-ok : Becomes old (λ t k. with_step (Pack drains reads) k) new → ((t : Terms) (k : Course) → StandsFor old t k → IfOk r (λ told. told ≡ packed_told c t k.steps drains reads))
      → ((t : Terms) (k : Course) → StandsFor old t k → let log = (history t k.steps).server in IsReadFor t (absorbing drains log) (server_state t.config log) reads)
      → A reads → IfOk r (λ told. (reads : List Read) × Packs old drains reads c told new × A reads)
  pack-ok stands told read a = by r told
    where
      by : (r : Result Told NoMemory) → ((t : Terms) (k : Course) → StandsFor old t k → IfOk r (λ told. told ≡ packed_told c t k.steps drains reads)) → IfOk r (λ told. (reads : List Read) × Packs old drains reads c told new × A reads)
      by (Ok one) told = (reads, record { stands = stands; told = told; read = read }, a)
      by (Err e) told = tt
