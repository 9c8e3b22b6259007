-- The events of one way between two ends: which packet carries which, and that the other end has those of the packets that
-- it processed. So no packet that comes has an event too far ahead of what the other end has delivered.
use Rattle.std.proofs.Common.{◌≡◌, ℕ, suc, ◌+◌, ◌<◌, ◌≤◌, Bool, true, false, not, ◌&&◌, ◌||◌, ◌==◌, nat_le, nat_lt, List, [], ◌∷◌, ◌++◌, length, map, Option, Some, None, if◌then◌else◌, refl, sym, ◌∙◌, ap, subst, arith, inl, inr}
use Rattle.std.specs.List.{AllByRecursion}
use Rattle.std.proofs.lemmas.Bool.Decides.{nat_tests}
use Rattle.std.proofs.lemmas.Bool.{cases_lt}
use Rattle.notify_window.specs.Log.{sent_of, horizon_of, is_processed, Fate, Unjudged, Received, Lost, is_received}
use Rattle.notify_window.proofs.Horizons.{processed-above}
use Rattle.wire_format.specs.declared.events.EventItem.{EventItem}
use Rattle.event_manager.specs.Sending.{SenderEvent, posted_of, holds, carriers, is_unacked, first_unacked, is_due, guaranteed_item, loose_item, items_that, due_guaranteed, waiting_of, due_of}
use Rattle.notify_window.specs.Fates.{any_received, all_lost}
use Rattle.event_manager.specs.Receiving.{items_onto, has_come, run_of, is_ahead}
use Rattle.notify_window.proofs.Fates.{not-false}
use Rattle.notify_window.proofs.Least.{least_below}
use Rattle.event_manager.proofs.Runs.{run-ends}
use Rattle.event_manager.proofs.Prefixes.{run-more}
use Rattle.conn_packing.specs.stream_manager.declared.config.Config.{Config}
use Rattle.conn_packing.specs.stream_manager.Wire.{event_bits}
use Rattle.conn_packing.specs.stream_manager.End.{Seen, EndEvent, Packed, Took, window_log, sender_log, fates, came_of, events_for}
use Rattle.conn_packing.proofs.Below.stream_manager.Fitting.{fitting-all}
use Rattle.pair_laws.specs.Verdicts.{ReceivedIsTrue}
use Rattle.conn_packing.proofs.Lists.{all-append, all-map, all-take}
use Rattle.wire_logs.proofs.Below.event_logs.Sent.{events_of}
use Rattle.wire_logs.proofs.Below.event_logs.Came.{items-more, items-hold}

-- not too far ahead for an end that delivered so many
abbrev pub IsNear : ℕ → EventItem → Type 0
IsNear run item = is_ahead run item.number ≡ false

-- a packet that was sent and carries event i
abbrev pub IsCarrier : (ℕ → List EventItem) → ℕ → ℕ → ℕ → Type 0
IsCarrier events sent i s = (s ≤ sent) × (holds i (events s) ≡ true)

-- a packet of an end that sent so many with these events, for an end that delivered so many
pub record Brings {P : Type 0} (seen : P → Seen) (IsGood : P → Type 0) (named : ℕ) (events : ℕ → List EventItem) (sent run : ℕ) (packet : P) : Type 0 where
  pub client : (seen packet).head.client ≡ named
  pub seq : (seen packet).head.seq ≤ sent
  pub own : (seen packet).ping ≡ false → events (seen packet).head.seq ≡ (seen packet).events
  pub near : AllByRecursion (IsNear run) (seen packet).events
  pub good : IsGood packet

-- the carriers of each event, and what came of them; and the packets
pub record EventWay {P : Type 0} (seen : P → Seen) (IsGood : P → Type 0) (named : ℕ) (carried : ℕ → List ℕ) (events : ℕ → List EventItem) (sent : ℕ) (processed : ℕ → Bool) (came : List EventItem) (packets : List P) : Type 0 where
  pub written : (i : ℕ) → AllByRecursion (IsCarrier events sent i) (carried i)
  pub reached : (s i : ℕ) → processed s ≡ true → holds i (events s) ≡ true → has_come i came ≡ true
  pub brings : AllByRecursion (Brings seen IsGood named events sent (run_of came)) packets

-- ---- what came

run-items : (items came : List EventItem) → run_of came ≤ run_of (items_onto items came)
run-items [] came = omega arith
run-items (item ∷ items) came = omega (arith, run-more item came, run-items items (item ∷ came))

-- ---- events that are near

near-more : (run more : ℕ) → run ≤ more → (item : EventItem) → IsNear run item → IsNear more item
near-more run more l item h = go item.number h
  where
    go : (n : Option ℕ) → is_ahead run n ≡ false → is_ahead more n ≡ false
    go None e = refl
    go (Some n) e = grind (arith, nat_tests)

near-items : (f : ℕ → Bool) (run : ℕ) → ((n : ℕ) → f n ≡ true → n < run + 64) → (i : ℕ) (vs : List (List ℕ)) → AllByRecursion (IsNear run) (items_that f i vs)
near-items f run low i [] = tt
near-items f run low i (v ∷ vs) = go (f i) refl (near-items f run low (suc i) vs)
  where
    near : i < run + 64 → nat_le (run + 64) i ≡ false
    near l = grind (arith, nat_tests)

    go : (b : Bool) → f i ≡ b → AllByRecursion (IsNear run) (items_that f (suc i) vs) → AllByRecursion (IsNear run) (if b then guaranteed_item i v ∷ items_that f (suc i) vs else items_that f (suc i) vs)
    go true e rest = (near (low i e), rest)
    go false e rest = rest

near-loose : (run : ℕ) (vs : List (List ℕ)) → AllByRecursion (IsNear run) (map loose_item vs)
near-loose run [] = tt
near-loose run (v ∷ vs) = (refl, near-loose run vs)

due-below : (fate : ℕ → Fate) (log : List SenderEvent) (n : ℕ) → is_due fate log n ≡ true → n < first_unacked fate log + 64
due-below fate log n h = go (nat_lt n (first_unacked fate log + 64)) refl h
  where
    go : (b : Bool) → nat_lt n (first_unacked fate log + 64) ≡ b → (b && all_lost fate (carriers n log)) ≡ true → n < first_unacked fate log + 64
    go true e h = grind (arith, nat_tests)
    go false e h = cc

near-due : (fate : ℕ → Fate) (log : List SenderEvent) (run : ℕ) → first_unacked fate log ≤ run → AllByRecursion (IsNear run) (due_of fate log)
unfolding due_guaranteed
near-due fate log run l =
    all-append (IsNear run) (due_guaranteed fate log) (map loose_item (waiting_of log))
    (near-items (is_due fate log) run (λ n e. omega (arith, due-below fate log n e)) 0 (posted_of log))
    (near-loose run (waiting_of log))

-- ---- one way

module _ {P : Type 0} (seen : P → Seen) where
  abbrev pub EventsOn : (P → Type 0) → ℕ → List EndEvent → List EndEvent → List P → Type 0
  EventsOn IsGood named x y packets =
      EventWay seen IsGood named (λ i. carriers i (sender_log x)) (λ s. events_of s x) (sent_of (window_log x)) (λ s. is_processed s (window_log y)) (came_of y) packets

  -- a packet that comes is good in more ways
  pub better : (IsGood IsBetter : P → Type 0) (named : ℕ) (x y : List EndEvent) (packets : List P) → ((p : P) → IsGood p → IsBetter p) → EventsOn IsGood named x y packets → EventsOn IsBetter named x y packets
  better IsGood IsBetter named x y packets f h = record {
    written = h.written;
    reached = h.reached;
    brings = all-map (Brings seen IsGood named (λ s. events_of s x) (sent_of (window_log x)) (run_of (came_of y))) (Brings seen IsBetter named (λ s. events_of s x) (sent_of (window_log x)) (run_of (came_of y)))
        (λ p b. record { client = b.client; seq = b.seq; own = b.own; near = b.near; good = f p b.good }) packets h.brings;
  }

  module _ (IsGood : P → Type 0) (named : ℕ) where
    pub start-events : EventsOn IsGood named [] [] []
    start-events = record { written = λ i. tt; reached = λ s i done h. cc; brings = tt }

    module _ (x y : List EndEvent) (packets : List P) (h : EventsOn IsGood named x y packets) where
      received-came : ReceivedIsTrue x y → (i : ℕ) (ss : List ℕ) → AllByRecursion (IsCarrier (λ s. events_of s x) (sent_of (window_log x)) i) ss → any_received (fates x) ss ≡ true → has_come i (came_of y) ≡ true
      received-came truth i [] all e = cc
      received-came truth i (s ∷ ss) all e = go (fates x s) refl (received-came truth i ss all.1) e
        where
          go : (f : Fate) → fates x s ≡ f → (any_received (fates x) ss ≡ true → has_come i (came_of y) ≡ true) → (is_received f || any_received (fates x) ss) ≡ true → has_come i (came_of y) ≡ true
          go Unjudged is rest e = rest e
          go Lost is rest e = rest e
          go Received is rest e = h.reached s i (truth s is) all.0.1

      -- all that is acknowledged came
      acked-came : ReceivedIsTrue x y → (i : ℕ) → i < first_unacked (fates x) (sender_log x) → has_come i (came_of y) ≡ true
      unfolding first_unacked
      acked-came truth i l =
          received-came truth i (carriers i (sender_log x)) (h.written i)
          (not-false (any_received (fates x) (carriers i (sender_log x))) (least_below (is_unacked (fates x) (sender_log x)) (length (posted_of (sender_log x))) i l))

      pub unacked-run : ReceivedIsTrue x y → first_unacked (fates x) (sender_log x) ≤ run_of (came_of y)
      unacked-run truth = elim (cases_lt (run_of (came_of y)) (first_unacked (fates x) (sender_log x))) [
        | inl l ↦ (let came : has_come (run_of (came_of y)) (came_of y) ≡ true = acked-came truth (run_of (came_of y)) l in
            let never : has_come (run_of (came_of y)) (came_of y) ≡ false = run-ends (came_of y) in absurd cc)
        | inr l ↦ l
      ]

      -- so the events of the next packet are near
      pub near-events : ReceivedIsTrue x y → (c : Config) (room : ℕ) → AllByRecursion (IsNear (run_of (came_of y))) (events_for c room x)
      near-events truth c room =
          fitting-all (IsNear (run_of (came_of y))) (event_bits c) room _ (all-take (IsNear (run_of (came_of y))) 31 (due_of (fates x) (sender_log x)) (near-due (fates x) (sender_log x) (run_of (came_of y)) (unacked-run truth)))

      -- the sender sends a data packet
      module _ (p : P) (next : (seen p).head.seq ≡ sent_of (window_log x) + 1) where
        newer : (s : ℕ) → s ≤ sent_of (window_log x) → ((seen p).head.seq == s) ≡ false
        newer s l = grind (arith, nat_tests)

        same-own : (s : ℕ) → s ≤ sent_of (window_log x) → events_of s (Packed (seen p) ∷ x) ≡ events_of s x
        same-own s l = rw (newer s l)

        itself : events_of (seen p).head.seq (Packed (seen p) ∷ x) ≡ (seen p).events
        itself = let t : ((seen p).head.seq == (seen p).head.seq) ≡ true = grind (arith, nat_tests) in rw t

        pub sends-events : (seen p).head.client ≡ named → AllByRecursion (IsNear (run_of (came_of y))) (seen p).events → IsGood p → horizon_of (window_log y) ≤ sent_of (window_log x)
            → EventsOn IsGood named (Packed (seen p) ∷ x) y (packets ++ p ∷ [])
        sends-events client near good known = record {
          written = λ i. writes i (holds i (seen p).events) refl;
          reached = λ s i done holding. elim (cases_lt (sent_of (window_log x)) s) [
            | inl above ↦ (let never : is_processed s (window_log y) ≡ false = processed-above s (window_log y) (omega arith) in absurd cc)
            | inr below ↦ h.reached s i done (sym (ap (holds i) (same-own s below)) ∙ holding)
          ];
          brings = all-append (Brings seen IsGood named (λ s. events_of s (Packed (seen p) ∷ x)) (sent_of (window_log x) + 1) (run_of (came_of y))) packets (p ∷ [])
              (all-map (Brings seen IsGood named (λ s. events_of s x) (sent_of (window_log x)) (run_of (came_of y))) (Brings seen IsGood named (λ s. events_of s (Packed (seen p) ∷ x)) (sent_of (window_log x) + 1) (run_of (came_of y)))
              older packets h.brings)
              (record { client = client; seq = omega arith; own = λ e. itself; near = near; good = good }, tt);
        }
          where
            older : (q : P) → Brings seen IsGood named (λ s. events_of s x) (sent_of (window_log x)) (run_of (came_of y)) q
                → Brings seen IsGood named (λ s. events_of s (Packed (seen p) ∷ x)) (sent_of (window_log x) + 1) (run_of (came_of y)) q
            older q b = record { client = b.client; seq = omega (arith, b.seq); own = λ e. same-own (seen q).head.seq b.seq ∙ b.own e; near = b.near; good = b.good }

            carrier : (i s : ℕ) → IsCarrier (λ s. events_of s x) (sent_of (window_log x)) i s → IsCarrier (λ s. events_of s (Packed (seen p) ∷ x)) (sent_of (window_log x) + 1) i s
            carrier i s c = (omega (arith, c.0), ap (holds i) (same-own s c.0) ∙ c.1)

            writes : (i : ℕ) (b : Bool) → holds i (seen p).events ≡ b
                → AllByRecursion (IsCarrier (λ s. events_of s (Packed (seen p) ∷ x)) (sent_of (window_log x) + 1) i) (if b then (seen p).head.seq ∷ carriers i (sender_log x) else carriers i (sender_log x))
            writes i false e = all-map (IsCarrier (λ s. events_of s x) (sent_of (window_log x)) i) (IsCarrier (λ s. events_of s (Packed (seen p) ∷ x)) (sent_of (window_log x) + 1) i) (carrier i) (carriers i (sender_log x)) (h.written i)
            writes i true e = (
              (omega arith, ap (holds i) itself ∙ e),
              all-map (IsCarrier (λ s. events_of s x) (sent_of (window_log x)) i) (IsCarrier (λ s. events_of s (Packed (seen p) ∷ x)) (sent_of (window_log x) + 1) i) (carrier i) (carriers i (sender_log x)) (h.written i),
            )

      -- it sends a ping
      pub pings-events : (p : P) → (seen p).head.seq ≡ sent_of (window_log x) → (seen p).head.client ≡ named → (seen p).ping ≡ true → (seen p).events ≡ [] → IsGood p
          → EventsOn IsGood named x y (packets ++ p ∷ [])
      pings-events p last client ping none good = record {
        written = h.written;
        reached = h.reached;
        brings = all-append (Brings seen IsGood named (λ s. events_of s x) (sent_of (window_log x)) (run_of (came_of y))) packets (p ∷ []) h.brings
            (record { client = client; seq = omega arith; own = λ e. absurd cc; near = subst (AllByRecursion (IsNear (run_of (came_of y)))) (sym none) tt; good = good }, tt);
      }

      -- the receiver takes a packet of the sender
      pub takes-events : (p : Seen) → (p.ping ≡ false → events_of p.head.seq x ≡ p.events) → EventsOn IsGood named x (Took p ∷ y) packets
      takes-events p own = record {
        written = h.written;
        reached = λ s i done holding. comes s i holding p.ping refl (p.head.seq == s) refl done;
        brings = all-map (Brings seen IsGood named (λ s. events_of s x) (sent_of (window_log x)) (run_of (came_of y))) (Brings seen IsGood named (λ s. events_of s x) (sent_of (window_log x)) (run_of (items_onto p.events (came_of y))))
            (λ q b. record {
              client = b.client;
              seq = b.seq;
              own = b.own;
              near = all-map (IsNear (run_of (came_of y))) (IsNear (run_of (items_onto p.events (came_of y)))) (near-more (run_of (came_of y)) (run_of (items_onto p.events (came_of y))) (run-items p.events (came_of y))) (seen q).events b.near;
              good = b.good;
            }) packets h.brings;
      }
        where
          comes : (s i : ℕ) → holds i (events_of s x) ≡ true → (ping : Bool) → p.ping ≡ ping → (b : Bool) → (p.head.seq == s) ≡ b → ((not ping && b) || is_processed s (window_log y)) ≡ true → has_come i (items_onto p.events (came_of y)) ≡ true
          comes s i holding true is b e done = items-more p.events (came_of y) i (h.reached s i done holding)
          comes s i holding false is false e done = items-more p.events (came_of y) i (h.reached s i done holding)
          comes s i holding false is true e done =
              let same : p.head.seq ≡ s = grind (arith, nat_tests) in
              items-hold p.events (came_of y) i (sym (ap (holds i) (sym (ap (λ n. events_of n x) same) ∙ own is)) ∙ holding)
