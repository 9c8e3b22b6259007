-- The counts and bytes of one end lie in their ranges, so that each of its packets has a spelling.
use Rattle.std.proofs.Common.{◌≡◌, ◌≢◌, ℕ, suc, ◌+◌, ◌<◌, ◌≤◌, ◌^◌, Bool, true, false, ◌==◌, List, [], ◌∷◌, ◌++◌, if◌then◌else◌, length, map, take, refl, arith, length-append, length-take}
use Rattle.std.specs.Result.{is_ok}
use Rattle.std.specs.List.{AllByRecursion}
use Rattle.std.proofs.lemmas.Bool.Decides.{nat_tests}
use Rattle.tn_types.specs.declared.choices.Class.TheVariants.{Guaranteed, Loose}
use Rattle.notify_window.specs.Log.{WindowEvent, sent_of, judged_of, horizon_of, mask_bit, Fate, send_state_of}
use Rattle.notify_window.specs.declared.SendState.TheVariants.{Held, Worn, Room}
use Rattle.notify_window.proofs.Words.{from_bits-lt}
use Rattle.wire_format.specs.Events.{IsEvent}
use Rattle.wire_format.specs.Header.{IsHeader}
use Rattle.wire_format.specs.Reading.{AreListed}
use Rattle.event_manager.specs.Sending.{SenderEvent, posted_of, waiting_of, guaranteed_item, loose_item, loose_count, items_that, is_due, due_guaranteed, due_of, post_answer_of}
use Rattle.conn_packing.specs.stream_manager.declared.config.Config.{Config}
use Rattle.conn_packing.specs.stream_manager.Wire.{event_bits}
use Rattle.conn_packing.specs.stream_manager.End.{Seen, EndEvent, Posted, Packed, Pinged, Took, window_log, sender_log, fates, data_head, ping_head, events_for}
use Rattle.conn_packing.proofs.Below.stream_manager.Fitting.{fitting-all, fitting-short}
use Rattle.pair_core.specs.Conditions.{IsPayload}
use Rattle.conn_packing.proofs.Lists.{all-append, all-take, all-drop}

pub record EndFits (life : ℕ) (log : List EndEvent) : Type 0 where
  pub sent : sent_of (window_log log) ≤ life
  pub horizon : horizon_of (window_log log) < 2 ^ 24
  pub posted : length (posted_of (sender_log log)) ≤ life
  pub payloads : AllByRecursion IsPayload (posted_of (sender_log log))
  pub waiting : AllByRecursion IsPayload (waiting_of (sender_log log))

pub start-fits : (life : ℕ) → EndFits life []
start-fits life = record { sent = omega arith; horizon = omega arith; posted = omega arith; payloads = tt; waiting = tt }

room-left : (life : ℕ) (fate : ℕ → Fate) (log : List SenderEvent) → is_ok (post_answer_of life fate log) ≡ true → length (posted_of log) ≢ life
room-left life fate log ok same =
    let full : (length (posted_of log) == life) ≡ true = grind (arith, nat_tests) in
    absurd (let h : is_ok (post_answer_of life fate log) ≡ false = rw full in cc)

pub posted-fits : (life : ℕ) (log : List EndEvent) (v : List ℕ) → is_ok (post_answer_of life (fates log) (sender_log log)) ≡ true → IsPayload v → EndFits life log → EndFits life (Posted Guaranteed v ∷ log)
posted-fits life log v ok fits h =
    let apart = room-left life (fates log) (sender_log log) ok in
    record {
      sent = h.sent;
      horizon = h.horizon;
      posted = omega (arith, h.posted, apart, length-append (posted_of (sender_log log)) (v ∷ []));
      payloads = all-append IsPayload (posted_of (sender_log log)) (v ∷ []) h.payloads (fits, tt);
      waiting = h.waiting;
    }

pub loose-fits : (life : ℕ) (log : List EndEvent) (v : List ℕ) → IsPayload v → EndFits life log → EndFits life (Posted Loose v ∷ log)
loose-fits life log v fits h = record {
  sent = h.sent;
  horizon = h.horizon;
  posted = h.posted;
  payloads = h.payloads;
  waiting = all-drop IsPayload _ (waiting_of (sender_log log) ++ v ∷ []) (all-append IsPayload (waiting_of (sender_log log)) (v ∷ []) h.waiting (fits, tt));
}

-- what a pack that makes a data packet finds
pub room-is : (life : ℕ) (log : List WindowEvent) → send_state_of life log ≡ Room → sent_of log ≢ life
room-is life log room same =
    let full : (sent_of log == life) ≡ true = grind (arith, nat_tests) in
    neither (sent_of log == judged_of log + 32) (rw full at room)
  where
    neither : (b : Bool) → (if b then Held else (if true then Worn else Room)) ≡ Room → ⊥
    neither true e = cc
    neither false e = cc

pub held-is : (life : ℕ) (log : List WindowEvent) → send_state_of life log ≡ Held → 1 ≤ sent_of log
held-is life log held = go (sent_of log == judged_of log + 32) refl held
  where
    go : (b : Bool) → (sent_of log == judged_of log + 32) ≡ b → (if b then Held else (if sent_of log == life then Worn else Room)) ≡ Held → 1 ≤ sent_of log
    go true is e = grind (arith, nat_tests)
    go false is e = not-held (sent_of log == life) e
      where
        not-held : (b : Bool) → (if b then Worn else Room) ≡ Held → 1 ≤ sent_of log
        not-held true e = cc
        not-held false e = cc

pub packed-fits : (life : ℕ) (log : List EndEvent) (p : Seen) → send_state_of life (window_log log) ≡ Room → EndFits life log → EndFits life (Packed p ∷ log)
packed-fits life log p room h =
    let apart = room-is life (window_log log) room in
    record {
      sent = omega (arith, h.sent, apart);
      horizon = h.horizon;
      posted = h.posted;
      payloads = h.payloads;
      waiting = all-drop IsPayload (loose_count p.events) (waiting_of (sender_log log)) h.waiting;
    }

pub pinged-fits : (life : ℕ) (log : List EndEvent) (p : Seen) → EndFits life log → EndFits life (Pinged p ∷ log)
pinged-fits life log p h = record { sent = h.sent; horizon = h.horizon; posted = h.posted; payloads = h.payloads; waiting = h.waiting }

pub took-fits : (life : ℕ) (log : List EndEvent) (p : Seen) → p.head.seq < 2 ^ 24 → EndFits life log → EndFits life (Took p ∷ log)
took-fits life log p small h = record { sent = h.sent; horizon = omega (arith, h.horizon); posted = h.posted; payloads = h.payloads; waiting = h.waiting }

-- ---- packets

pub data_head-fits : (life client : ℕ) (log : List EndEvent) → life < 2 ^ 24 → client < 16 → send_state_of life (window_log log) ≡ Room → EndFits life log → IsHeader (data_head client log)
data_head-fits life client log short few room h =
    let apart = room-is life (window_log log) room in
    record {
      client = omega arith;
      some = omega arith;
      seq = omega (arith, h.sent, apart);
      horizon = h.horizon;
      mask = from_bits-lt (mask_bit (window_log log)) 32;
    }

pub ping_head-fits : (life client : ℕ) (log : List EndEvent) → life < 2 ^ 24 → client < 16 → send_state_of life (window_log log) ≡ Held → EndFits life log → IsHeader (ping_head client log)
ping_head-fits life client log short few held h = record {
  client = omega arith;
  some = held-is life (window_log log) held;
  seq = omega (arith, h.sent);
  horizon = h.horizon;
  mask = from_bits-lt (mask_bit (window_log log)) 32;
}

guaranteed-are_events : (f : ℕ → Bool) (i : ℕ) (vs : List (List ℕ)) → i + length vs ≤ 2 ^ 24 → AllByRecursion IsPayload vs → AllByRecursion (IsEvent 1) (items_that f i vs)
guaranteed-are_events f i [] few h = tt
guaranteed-are_events f i (v ∷ vs) few h = go (f i) (guaranteed-are_events f (suc i) vs (omega arith) h.1)
  where
    go : (b : Bool) → AllByRecursion (IsEvent 1) (items_that f (suc i) vs) → AllByRecursion (IsEvent 1) (if b then guaranteed_item i v ∷ items_that f (suc i) vs else items_that f (suc i) vs)
    go true rest = (record { number = omega arith; payload = record { few = h.0.0; bytes = h.0.1 } }, rest)
    go false rest = rest

loose-are_events : (vs : List (List ℕ)) → AllByRecursion IsPayload vs → AllByRecursion (IsEvent 1) (map loose_item vs)
loose-are_events [] h = tt
loose-are_events (v ∷ vs) h = (record { number = tt; payload = record { few = h.0.0; bytes = h.0.1 } }, loose-are_events vs h.1)

due-are_events : (life : ℕ) (log : List EndEvent) → life < 2 ^ 24 → EndFits life log → AllByRecursion (IsEvent 1) (due_of (fates log) (sender_log log))
unfolding due_guaranteed
due-are_events life log short h =
    all-append (IsEvent 1) (due_guaranteed (fates log) (sender_log log)) (map loose_item (waiting_of (sender_log log)))
    (guaranteed-are_events (is_due (fates log) (sender_log log)) 0 (posted_of (sender_log log)) (omega (arith, h.posted)) h.payloads)
    (loose-are_events (waiting_of (sender_log log)) h.waiting)

pub events-fit : (c : Config) (life room : ℕ) (log : List EndEvent) → life < 2 ^ 24 → EndFits life log → AreListed 31 (IsEvent 1) (events_for c room log)
events-fit c life room log short h = record {
  few = omega (arith, fitting-short (event_bits c) room (take 31 (due_of (fates log) (sender_log log))), length-take 31 (due_of (fates log) (sender_log log)));
  each = fitting-all (IsEvent 1) (event_bits c) room (take 31 (due_of (fates log) (sender_log log))) (all-take (IsEvent 1) 31 (due_of (fates log) (sender_log log)) (due-are_events life log short h));
}
