-- After all steps of a connection a prediction that was told what happened at the client's end has that end's base and pending moves.
use Rattle.std.proofs.Common.{◌≡◌, ℕ, ◌≤◌, Bool, true, false, List, [], ◌∷◌, ◌++◌, length, Option, Some, None, refl, sym, ap, ◌∙◌, arith}
use Rattle.std.specs.Prelude.{Result, Ok, Err, is_ok, option_map, slice_get, if◌then◌else◌, ℤ}
use Rattle.std.proofs.lemmas.List.{drop-append-le}
use Rattle.tn_types.specs.declared.choices.Class.{Class}
use Rattle.tn_types.specs.declared.choices.Class.TheVariants.{Guaranteed, Loose}
use Rattle.tn_types.specs.declared.moves.MoveBits.{MoveBits}
use Rattle.notify_window.specs.declared.SendState.{SendState}
use Rattle.notify_window.specs.declared.SendState.TheVariants.{Held, Worn, Room}
use Rattle.wire_format.specs.declared.server.ServerPacket.{ServerPacket}
use Rattle.wire_format.specs.declared.server.ServerPacket.TheVariants as down
use Rattle.move_manager.specs.Sending.{acked_of}
use Rattle.stream_manager.specs.declared.fault.ClientFault.{ClientFault}
use Rattle.stream_manager.specs.Limits.{Terms, AreTerms}
use Rattle.stream_manager.specs.End.{with_event}
use Rattle.stream_manager.specs.Server.{server_datagrams}
use Rattle.stream_manager.specs.Client as client
use Rattle.stream_manager.specs.Client.{ClientEvent, sample_log, sampled_at, sampled_answer, posted_at_client, client_state, pack_event, client_answer, took_at_client}
use Rattle.pair_core.specs.History.{PairStep, Show, Hide, Near, Post, ClientPost, Sample, Pack, ClientPack, Down, Up, Raw, history, client_posts, client_samples, client_gets}
use Rattle.pair_laws.proofs.Good.{AreGood}
use Rattle.pair_laws.proofs.Carried.{carried}
use Rattle.world_rules.specs.Kinds.{match_kinds}
use Rattle.client_predict.specs.Standing.{played}
use Rattle.client_predict.specs.Predicting.{value_of, base_of, pending_of}
use Rattle.predict_client.specs.Following.{predict_log, base_at, unaccepted}

pub record IsKnown (u : List ClientEvent) : Type 0 where
  pub base : base_of (predict_log u) ≡ base_at match_kinds u
  pub pending : pending_of (predict_log u) ≡ unaccepted u

-- events that are not told
quiet : (e : ClientEvent) (ok : Bool) (u : List ClientEvent) → IsKnown (e ∷ u) → IsKnown u → IsKnown (if ok then e ∷ u else u)
quiet e true u new old = new
quiet e false u new old = old

posts : (t : Terms) (class : Class) (v : List ℕ) (u : List ClientEvent) → IsKnown u → IsKnown (client_posts t.config class v u)
posts t Guaranteed v u h =
    quiet (client.Posted Guaranteed v) (is_ok (posted_at_client t.config u)) u (record { base = h.base; pending = h.pending }) h
posts t Loose v u h = record { base = h.base; pending = h.pending }

packs : (t : Terms) (state : SendState) (u : List ClientEvent) → IsKnown u → IsKnown (with_event (pack_event t.config u state) u)
packs t Held u h = record { base = h.base; pending = h.pending }
packs t Worn u h = h
packs t Room u h = record { base = h.base; pending = h.pending }

-- a sampled move, where the server told of no more moves than were sampled
samples : (t : Terms) (m : MoveBits) (u : List ClientEvent) → acked_of (sample_log u) ≤ length (sampled_at u) → IsKnown u → IsKnown (client_samples t.config m u)
samples t m u within h =
    quiet (client.Sampled m) (is_ok (sampled_answer t.config m u)) u (record {
      base = h.base;
      pending = ap (λ (ms : List MoveBits). ms ++ m ∷ []) h.pending ∙ sym (drop-append-le (acked_of (sample_log u)) (sampled_at u) (m ∷ []) within);
    }) h

took : (u : List ClientEvent) (r : Result ServerPacket ClientFault) → IsKnown u → IsKnown (took_at_client u r)
took u (Ok (down.Body p)) h = record { base = refl; pending = refl }
took u (Ok (down.Ping head)) h = record { base = h.base; pending = h.pending }
took u (Err fault) h = h

gets : (t : Terms) (o : Option (List ℕ)) (u : List ClientEvent) → IsKnown u → IsKnown (client_gets t o u)
gets t None u h = h
gets t (Some bytes) u h = took u (client_answer t.config t.kinds u bytes) h

module _ (t : Terms) (limits : AreTerms t) where
  acked_within : (steps : List PairStep) → AreGood t steps → let u = (history t steps).client in acked_of (sample_log u) ≤ length (sampled_at u)
  acked_within steps fit =
      let moves = (carried t limits steps fit).moves in
      omega (arith, moves.acked, moves.front.within)

  pub known : (steps : List PairStep) → AreGood t steps → IsKnown (history t steps).client
  known [] fit = record { base = refl; pending = refl }
  known (Show kind block level control ∷ steps) fit = known steps fit.1
  known (Hide n ∷ steps) fit = known steps fit.1
  known (Near n level ∷ steps) fit = known steps fit.1
  known (Post class v ∷ steps) fit = known steps fit.1
  known (ClientPost class v ∷ steps) fit = posts t class v (history t steps).client (known steps fit.1)
  known (Sample m ∷ steps) fit = samples t m (history t steps).client (acked_within steps fit.1) (known steps fit.1)
  known (Pack drains reads ∷ steps) fit = known steps fit.1
  known (ClientPack ∷ steps) fit = packs t (client_state t.config (history t steps).client) (history t steps).client (known steps fit.1)
  known (Down k ∷ steps) fit = gets t (slice_get (server_datagrams t (history t steps).server) k) (history t steps).client (known steps fit.1)
  known (Up k room ∷ steps) fit = known steps fit.1
  known (Raw bytes room ∷ steps) fit = known steps fit.1

-- so the value is the end's base with its pending moves played on it
pub value_known : (u : List ClientEvent) → IsKnown u → value_of (predict_log u) ≡ option_map (λ at. played at (unaccepted u)) (base_at match_kinds u)
value_known u h =
    ap (λ (ms : List MoveBits). option_map (λ at. played at ms) (base_of (predict_log u))) h.pending
    ∙ ap (λ (o : Option (ℤ × ℤ × ℤ)). option_map (λ at. played at (unaccepted u)) o) h.base
