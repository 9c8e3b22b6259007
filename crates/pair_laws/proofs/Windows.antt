-- What each end of a connection knows of the other's packets, and what its own tell: one way between two ends, from
-- the one that sends to the one that receives, seen by their windows.
use Rattle.std.proofs.Common.{◌≡◌, ◌≢◌, ℕ, ◌+◌, ◌-◌, ◌<◌, ◌≤◌, Bool, true, false, not, ◌&&◌, ◌==◌, nat_le, nat_lt, List, [], ◌∷◌, ◌++◌, if◌then◌else◌, Ok, Err, refl, sym, ◌∙◌, ap, arith, inl, inr}
use Rattle.std.specs.Result.{is_ok}
use Rattle.std.specs.List.{AllByRecursion}
use Rattle.std.specs.Int.{bit_at}
use Rattle.std.proofs.lemmas.Bool.Decides.{nat_tests}
use Rattle.std.proofs.lemmas.Bool.{cases_lt}
use Rattle.notify_window.specs.declared.SendState.TheVariants.{Held, Room}
use Rattle.notify_window.specs.declared.Arrival.TheVariants.{Fresh}
use Rattle.tn_types.specs.BitWords.{bit_of}
use Rattle.notify_window.specs.Log.{WindowEvent, Sent, Came, Told, sent_of, horizon_of, is_processed, judged_of, mask_of, mask_bit, fate_of, fate_of_bit, send_state_of, arrival_of}
use Rattle.notify_window.proofs.Words.{bit_at-from_bits}
use Rattle.notify_window.proofs.Verdicts.{fate-told, fate-told_judged}
use Rattle.notify_window.proofs.Horizons.{processed-fresh}
use Rattle.wire_format.specs.declared.header.Header.{Header}
use Rattle.conn_packing.specs.stream_manager.declared.fault.HeadFault.{HeadFault}
use Rattle.conn_packing.specs.stream_manager.declared.fault.HeadFault.TheVariants.{WrongClient, Old, AckAhead}
use Rattle.tn_types.specs.Checks.{Checked, then_check}
use Rattle.conn_packing.specs.stream_manager.End.{Seen, EndEvent, window_log, data_head, ping_head, head_answer}
use Rattle.conn_packing.proofs.Lists.{all-append, all-map}

-- the header of a packet that an end sent, by what its window has seen by now: the packet's number is one that was sent,
-- and what it acknowledges is so
pub record Tells (head : Header) (w : List WindowEvent) : Type 0 where
  pub seq : head.seq ≤ sent_of w
  pub known : head.horizon ≤ horizon_of w
  pub bits : (s : ℕ) → 0 < s → s ≤ head.horizon → head.horizon < s + 32 → bit_at head.mask (head.horizon - s) ≡ bit_of (is_processed s w)

-- and of the whole packet
abbrev pub TellsOf : {P : Type 0} → (P → Seen) → List WindowEvent → P → Type 0
TellsOf seen w p = Tells (seen p).head w

-- what the end that saw x knows of the end that saw y, and the packets that it sent
pub record Way {P : Type 0} (seen : P → Seen) (x y : List WindowEvent) (sent : List P) : Type 0 where
  pub few : sent_of x ≤ judged_of x + 32
  pub known : horizon_of y ≤ sent_of x
  pub judged : judged_of x ≤ horizon_of y
  pub right : (s : ℕ) → 0 < s → s ≤ judged_of x → fate_of s x ≡ fate_of_bit (bit_of (is_processed s y))
  pub told : AllByRecursion (TellsOf seen x) sent

-- ---- one packet

-- what an end tells now is so
tells-now : (head : Header) (w : List WindowEvent) → head.horizon ≡ horizon_of w → head.mask ≡ mask_of w → (s : ℕ) → 0 < s → s ≤ head.horizon → head.horizon < s + 32
    → bit_at head.mask (head.horizon - s) ≡ bit_of (is_processed s w)
tells-now head w h m s pos within near =
    let low : head.horizon - s < 32 = omega arith in
    let inside : nat_lt (head.horizon - s) (horizon_of w) ≡ true = grind (arith, nat_tests) in
    let back : horizon_of w - (head.horizon - s) ≡ s = omega arith in
    rw m (bit_at-from_bits (mask_bit w) 32 (head.horizon - s) low ∙ rw (inside, back))

pub tells-data : (client : ℕ) (log : List EndEvent) → Tells (data_head client log) (Sent ∷ window_log log)
tells-data client log = record { seq = omega arith; known = omega arith; bits = tells-now (data_head client log) (window_log log) refl refl }

pub tells-ping : (client : ℕ) (log : List EndEvent) → Tells (ping_head client log) (window_log log)
tells-ping client log = record { seq = omega arith; known = omega arith; bits = tells-now (ping_head client log) (window_log log) refl refl }

tells-sent : (head : Header) (w : List WindowEvent) → Tells head w → Tells head (Sent ∷ w)
tells-sent head w t = record { seq = omega (arith, t.seq); known = t.known; bits = t.bits }

-- below the horizon nothing changes any more
tells-came : (head : Header) (ping : Bool) (seq horizon mask : ℕ) (w : List WindowEvent) → arrival_of ping seq (horizon_of w) ≡ Fresh → Tells head w → Tells head (Told horizon mask ∷ Came ping seq ∷ w)
tells-came head ping seq horizon mask w fresh t = record {
  seq = t.seq;
  known = omega (arith, t.known);
  bits = λ s pos l near. t.bits s pos l near ∙ ap bit_of (sym (processed-fresh s seq ping w fresh (omega (arith, t.known))));
}

-- ---- one way

module _ {P : Type 0} (seen : P → Seen) where
  pub start-way : Way seen [] [] []
  start-way = record { few = omega arith; known = omega arith; judged = omega arith; right = λ s pos l. absurd (omega arith); told = tt }

  not-full : (life : ℕ) (w : List WindowEvent) → send_state_of life w ≡ Room → sent_of w ≢ judged_of w + 32
  not-full life w room same =
      let full : (sent_of w == judged_of w + 32) ≡ true = grind (arith, nat_tests) in
      let never : Held ≡ Room = rw full at room in
      absurd cc

  -- the sender sends a data packet
  pub sends : (life : ℕ) (x y : List WindowEvent) (sent : List P) (p : P) → send_state_of life x ≡ Room → TellsOf seen (Sent ∷ x) p → Way seen x y sent → Way seen (Sent ∷ x) y (sent ++ p ∷ [])
  sends life x y sent p room tells way =
      let apart = not-full life x room in
      record {
        few = omega (arith, way.few, apart);
        known = omega (arith, way.known);
        judged = way.judged;
        right = way.right;
        told = all-append (TellsOf seen (Sent ∷ x)) sent (p ∷ []) (all-map (TellsOf seen x) (TellsOf seen (Sent ∷ x)) (λ q. tells-sent (seen q).head x) sent way.told) (tells, tt);
      }

  -- it sends a ping
  pub pings : (x y : List WindowEvent) (sent : List P) (p : P) → TellsOf seen x p → Way seen x y sent → Way seen x y (sent ++ p ∷ [])
  pings x y sent p tells way = record { few = way.few; known = way.known; judged = way.judged; right = way.right; told = all-append (TellsOf seen x) sent (p ∷ []) way.told (tells, tt) }

  -- the receiver sends a data packet
  pub other-sends : (x y : List WindowEvent) (sent : List P) → Way seen x y sent → Way seen x (Sent ∷ y) sent
  other-sends x y sent way = record { few = way.few; known = way.known; judged = way.judged; right = way.right; told = way.told }

  -- the sender takes a packet of the receiver
  pub takes : (head : Header) (ping : Bool) (x y : List WindowEvent) (sent : List P) → Tells head y → arrival_of ping head.seq (horizon_of x) ≡ Fresh → head.horizon ≤ sent_of x → Way seen x y sent
      → Way seen (Told head.horizon head.mask ∷ Came ping head.seq ∷ x) y sent
  takes head ping x y sent tells fresh within way = record {
    few = omega (arith, way.few);
    known = way.known;
    judged = omega (arith, way.judged, tells.known);
    right = λ s pos l. elim (cases_lt (judged_of x) s) [
      | inl new ↦ (let reached : s ≤ head.horizon = omega arith in
          fate-told s head.horizon head.mask (Came ping head.seq ∷ x) new reached ∙ ap fate_of_bit (tells.bits s pos reached (omega (arith, way.few, within))))
      | inr old ↦ fate-told_judged s head.horizon head.mask (Came ping head.seq ∷ x) old ∙ way.right s pos old
    ];
    told = all-map (TellsOf seen x) (TellsOf seen (Told head.horizon head.mask ∷ Came ping head.seq ∷ x)) (λ q. tells-came (seen q).head ping head.seq head.horizon head.mask x fresh) sent way.told;
  }

  -- the receiver takes a packet of the sender
  pub other-takes : (head : Header) (ping : Bool) (x y : List WindowEvent) (sent : List P) → Tells head x → arrival_of ping head.seq (horizon_of y) ≡ Fresh → Way seen x y sent
      → Way seen x (Told head.horizon head.mask ∷ Came ping head.seq ∷ y) sent
  other-takes head ping x y sent tells fresh way = record {
    few = way.few;
    known = omega (arith, way.known, tells.seq);
    judged = omega (arith, way.judged);
    right = λ s pos l. way.right s pos l ∙ ap (λ b. fate_of_bit (bit_of b)) (sym (processed-fresh s head.seq ping y fresh (omega (arith, way.judged))));
    told = way.told;
  }

-- ---- arrivals

-- what a packet that is not refused for its header meets
pub record Meets (log : List EndEvent) (p : Seen) : Type 0 where
  pub fresh : arrival_of p.ping p.head.seq (horizon_of (window_log log)) ≡ Fresh
  pub within : p.head.horizon ≤ sent_of (window_log log)

fresh-is : (ping : Bool) (seq horizon : ℕ) → (not ping && nat_le seq horizon) ≡ false → arrival_of ping seq horizon ≡ Fresh
fresh-is true seq horizon e = refl
fresh-is false seq horizon e = rw e

-- the answer, by its three tests
abbrev pub tested : List EndEvent → Seen → (other old ahead : Bool) → Checked HeadFault
tested log p other old ahead =
    then_check (if other then Err (WrongClient p.head.client) else if old then Err (Old p.head.seq (horizon_of (window_log log))) else Ok tt)
    (if ahead then Err (AckAhead p.head.horizon (sent_of (window_log log))) else Ok tt)

pub head-meets : (client : ℕ) (log : List EndEvent) (p : Seen) → is_ok (head_answer client log p) ≡ true → Meets log p
head-meets client log p ok = go (not (p.head.client == client)) (not p.ping && nat_le p.head.seq (horizon_of (window_log log))) (nat_lt (sent_of (window_log log)) p.head.horizon) refl refl ok
  where
    go : (a b c : Bool) → (not p.ping && nat_le p.head.seq (horizon_of (window_log log))) ≡ b → nat_lt (sent_of (window_log log)) p.head.horizon ≡ c
        → is_ok (tested log p a b c) ≡ true → Meets log p
    go true b c e f ok = cc
    go false true c e f ok = cc
    go false false true e f ok = cc
    go false false false e f ok = record { fresh = fresh-is p.ping p.head.seq (horizon_of (window_log log)) e; within = grind (arith, nat_tests) }
