-- What is acknowledged was delivered: what was delivered reaches as far as the first event that is not acknowledged, or further.
use Rattle.std.proofs.Common.{◌≡◌, ◌∙◌, ℕ, ◌<◌, ◌≤◌, Bool, true, false, List, ◌++◌, length, take, drop, refl, sym, ap, subst, arith, inl, inr}
use Rattle.std.proofs.lemmas.Bool.{cases_lt}
use Rattle.std.proofs.lemmas.List.{take_all, take-take, take-append-drop}
use Rattle.notify_window.specs.Fates.{any_received}
use Rattle.notify_window.proofs.Least.{least_passes}
use Rattle.wire_format.specs.declared.events.EventItem.{EventItem}
use Rattle.event_manager.specs.Sending.{posted_of, carriers, is_unacked, first_unacked}
use Rattle.event_manager.specs.Receiving.{run_of, delivered_of}
use Rattle.event_manager.specs.Posted.{ArePosted, guaranteed_of}
use Rattle.event_manager.proofs.Prefixes.{delivered-posted}
use Rattle.conn_packing.specs.stream_manager.Limits.{Terms, AreTerms}
use Rattle.conn_packing.specs.stream_manager.End.{EndEvent, sender_log, fates, came_of}
use Rattle.conn_packing.specs.stream_manager.Server.{server_end, seen_up, accepted_at}
use Rattle.conn_packing.specs.stream_manager.Client.{client_end, seen_down}
use Rattle.pair_core.specs.History.{PairStep, history}
use Rattle.pair_laws.specs.Laws.{posted_at}
use Rattle.pair_laws.specs.Exchange.{server_packets, client_packets}
use Rattle.pair_laws.specs.Acknowledged.{AreAcknowledged, WereDelivered, DeliveredDown, DeliveredUp}
use Rattle.pair_laws.proofs.Good.{AreGood}
use Rattle.pair_laws.proofs.Carried.{carried}
use Rattle.pair_laws.proofs.Honest.{honest, IsScript, BeginsWithin}
use Rattle.pair_laws.proofs.Reached.{unacked-run}
use Rattle.pair_laws.proofs.VerdictLaw.{true_down, true_up}

-- once all are acknowledged, the first one that is not lies behind the last
none-unacked : (log : List EndEvent) → AreAcknowledged log → length (posted_at log) ≤ first_unacked (fates log) (sender_log log)
unfolding first_unacked
none-unacked log all = elim (cases_lt (first_unacked (fates log) (sender_log log)) (length (posted_at log))) [
  | inl l ↦ (let acked = all (first_unacked (fates log) (sender_log log)) l in
      let not_yet = least_passes (is_unacked (fates log) (sender_log log)) (length (posted_of (sender_log log))) l in absurd (let e : is_unacked (fates log) (sender_log log) (first_unacked (fates log) (sender_log log)) ≡ false = rw acked refl in cc))
  | inr l ↦ l
]

were-delivered : (log : List EndEvent) (came : List EventItem) → ArePosted (posted_at log) came → first_unacked (fates log) (sender_log log) ≤ run_of came
    → WereDelivered log (guaranteed_of (delivered_of came))
were-delivered log came posted reach = record {
  front = (drop first (take run vs), ap (λ l. l ++ drop first (take run vs)) (sym (take-take first run vs reach)) ∙ take-append-drop first (take run vs) ∙ sym here);
  all = λ acked. here ∙ take_all run vs (omega (arith, none-unacked log acked, reach));
}
  where
    vs : List (List ℕ)
    vs = posted_at log

    run : ℕ
    run = run_of came

    first : ℕ
    first = first_unacked (fates log) (sender_log log)

    here : guaranteed_of (delivered_of came) ≡ take run vs
    here = delivered-posted vs came posted

pub delivered_down : (t : Terms) (steps : List PairStep) → AreTerms t → AreGood t steps → DeliveredDown t steps
delivered_down t steps limits fit =
    were-delivered (server_end (history t steps).server) (came_of (client_end (history t steps).client)) (carried t limits steps fit).came_down
    (unacked-run seen_down (IsScript t.blocks) t.config.client (server_end (history t steps).server) (client_end (history t steps).client) (server_packets (history t steps).server)
    (honest t limits steps fit).down (true_down t steps limits fit).0)

pub delivered_up : (t : Terms) (steps : List PairStep) → AreTerms t → AreGood t steps → DeliveredUp t steps
delivered_up t steps limits fit =
    were-delivered (client_end (history t steps).client) (came_of (server_end (history t steps).server)) (carried t limits steps fit).came_up
    (unacked-run seen_up (BeginsWithin (length (accepted_at t.config (history t steps).server))) t.config.client (client_end (history t steps).client) (server_end (history t steps).server)
    (client_packets (history t steps).client) (honest t limits steps fit).up (true_up t steps limits fit).0)
