-- Turns, call by call, and a run that stops early: what was written and sent is a front of what the whole run asks for.
use Rattle.std.proofs.Common.{◌≡◌, ℕ, suc, ◌+◌, ◌-◌, ◌≤◌, ◌<◌, List, [], ◌∷◌, ◌++◌, length, take, Option, Some, None, Ok, sym, ap, subst, refl, arith, add-one, length-append}
use Rattle.tn_outside.specs.declared.peer.Peer.{Peer}
use Rattle.tn_outside.specs.Links.{Datagram, Ahead, found, Receives, Tells}
use Rattle.tn_outside.specs.Totals.{Adds, AddsFront}
use Rattle.match_script.specs.declared.types.Head.{Head}
use Rattle.net_rules.specs.declared.limits.TheConstants.{MAX_RECEIVES, MAX_RECEIVED_BYTES}
use Rattle.net_rules.specs.Turns.{Event, Heard, Turned, total, AreTurns, with_found, heard, events}
use Rattle.net_rules.specs.Places.{IsPlace, Listens}
use Rattle.net_rules.proofs.Places.{place_came, past_stays}
use Rattle.net_rules.proofs.Turning.{turn_ends, turns_go_on, found_more, heard_more, events_more}
use Rattle.net_rules.proofs.Rounds.{event_is, nothing_sent}
use Rattle.net_serve.specs.Lines.{lines, text_so_far}
use Rattle.net_serve.specs.Outgoing.{sends}
use Rattle.net_rules.specs.Runs.{Begun}
use Rattle.net_serve.specs.Stages.{ServerState, Serves, IsAt, IsFront, ServedFront}
use Rattle.tn_outside.proofs.Totals.{adds_nothing, whole_front}
use Rattle.net_serve.proofs.Texts.{front_grows}
use Rattle.net_serve.proofs.Sending.{sends_grow, sends_whole}
use Rattle.net_serve.proofs.Growing.{lines_behind, sends_before}

-- ---- fronts

pub front_later : (o : Begun) (head : Head) (w : Option (List ℕ)) (d : Option (List Datagram)) (later past whole : List Event) → whole ≡ later ++ past
    → IsFront o head w d past → IsFront o head w d whole
front_later o head w d later past whole e f =
    let l = lines_behind head later past in
    let s = sends_before head later past in
    let there : IsFront o head w d (later ++ past) = record {
      text = front_grows head o.written w l.0 (lines head past) (lines head (later ++ past)) l.1 f.text;
      outgoing = sends_grow o.sent d (sends head past) s.0 (sends head (later ++ past)) s.1 f.outgoing;
    } in
    subst (λ (x : List Event). IsFront o head w d x) (sym e) there

pub at_front : (o : Begun) (s : ServerState) (head : Head) (w : Option (List ℕ)) (d : Option (List Datagram)) (past : List Event) → s.script.head ≡ head
    → IsAt o s w d past → IsFront o head w d past
at_front o s head w d past e at =
    let here : IsFront o s.script.head w d past = record {
      text = whole_front o.written w (text_so_far s.script.head (lines s.script.head past)) at.text;
      outgoing = sends_whole o.sent d (sends s.script.head past) at.outgoing;
    } in
    subst (λ (h : Head). IsFront o h w d past) e here

-- ---- one turn's listening

pub heard_on : (o : Begun) (behind n : ℕ) (s : ServerState) (w : Option (List ℕ)) (d : Option (List Datagram)) (past : List Event)
    → IsAt o s w d (with_found (found o.ahead (behind + n)) (heard o.ahead behind n past)) → IsAt o s w d (heard o.ahead behind (n + 1) past)
heard_on o behind n s w d past at = subst (λ (k : ℕ). IsAt o s w d (heard o.ahead behind k past)) (sym (add-one n)) at

-- ---- turns

-- a run that stopped within a turn's listening
pub stopped_within : (o : Begun) (head : Head) (w : Option (List ℕ)) (d : Option (List Datagram)) (counts : List ℕ) (n : ℕ) → AreTurns o.ahead o.clock counts
    → n < MAX_RECEIVES → Listens o.ahead o.clock (length counts) (total counts) n
    → IsFront o head w d (heard o.ahead (total counts) (suc n) (events o.ahead counts))
    → (m : ℕ) × AreTurns o.ahead o.clock (m ∷ counts) × IsFront o head w d (events o.ahead (m ∷ counts))
stopped_within o head w d counts n are lt l f =
    let m = turn_ends o.ahead o.clock (length counts) (total counts) n lt l in
    let h = heard_more o.ahead (total counts) (suc n) m.0 (events o.ahead counts) m.2 in (
      m.0,
      (m.1, are),
      front_later o head w d (Turned ∷ h.0) (heard o.ahead (total counts) (suc n) (events o.ahead counts)) (events o.ahead (m.0 ∷ counts)) (ap (λ (xs : List Event). Turned ∷ xs) h.1) f,
    )

-- a run that stopped within a turn
pub stopped : (o : Begun) (head : Head) (turns : ℕ) (w : Option (List ℕ)) (d : Option (List Datagram)) (counts : List ℕ) → AreTurns o.ahead o.clock counts
    → length counts ≤ turns → IsFront o head w d (events o.ahead counts) → ServedFront head turns o w d
stopped o head turns w d counts are le f =
    let r = turns_go_on o.ahead o.clock (turns - length counts) counts are in
    let v = events_more o.ahead r.0 counts in record {
      counts = r.0 ++ counts;
      turns_are = let e : length (r.0 ++ counts) ≡ turns = omega (arith, length-append r.0 counts, r.1, le) in e;
      are = r.2;
      front = front_later o head w d v.0 (events o.ahead counts) (events o.ahead (r.0 ++ counts)) v.1 f;
    }

-- ---- one call of `receive`

pub at_sent : (o : Begun) (s : ServerState) (w : Option (List ℕ)) (d d' : Option (List Datagram)) (past : List Event) → d' ≡ d → IsAt o s w d past → IsAt o s w d' past
at_sent o s w d d' past e at = subst (λ (x : Option (List Datagram)). IsAt o s w x past) (sym e) at

module _ (o : Begun) (k : ℕ) (a a' : Option Ahead) (c : Option (List ℕ)) (x : Peer × ℕ) (buf : List ℕ) (place : IsPlace o.ahead o.clock a c k)
    (r : Receives a a' (Ok (Some x)) buf) (l : length buf ≡ MAX_RECEIVED_BYTES) where
  pub came_place : (a'' : Option Ahead) → a'' ≡ a' → IsPlace o.ahead o.clock a'' c (suc k)
  came_place a'' same = subst (λ (z : Option Ahead). IsPlace o.ahead o.clock z c (suc k)) (sym same) (place_came o.ahead o.clock a a' c k buf place x r)

  pub came_at : (s : ServerState) (w : Option (List ℕ)) (d : Option (List Datagram)) (bytes : List ℕ) (past : List Event) → bytes ≡ take x.1 buf
      → IsAt o s w d (Heard (record { peer = x.0; bytes = bytes }) ∷ past) → IsAt o s w d (with_found (found o.ahead k) past)
  came_at s w d bytes past e at = subst (λ (t : List Event). IsAt o s w d t) (event_is o k a a' c x buf place r l bytes past e) at

  pub came_front : (head : Head) (w : Option (List ℕ)) (d : Option (List Datagram)) (bytes : List ℕ) (past : List Event) → bytes ≡ take x.1 buf
      → IsFront o head w d (Heard (record { peer = x.0; bytes = bytes }) ∷ past) → IsFront o head w d (with_found (found o.ahead k) past)
  came_front head w d bytes past e f = subst (λ (t : List Event). IsFront o head w d t) (event_is o k a a' c x buf place r l bytes past e) f

module _ (o : Begun) (k : ℕ) (a a' : Option Ahead) (c c' : Option (List ℕ)) (now : ℕ) (buf : List ℕ) (place : IsPlace o.ahead o.clock a c k)
    (r : Receives a a' (Ok None) buf) (told : Tells c c' (Ok now)) where
  pub quiet_at : (s : ServerState) (w : Option (List ℕ)) (d : Option (List Datagram)) (past : List Event) → IsAt o s w d past → IsAt o s w d (with_found (found o.ahead k) past)
  quiet_at s w d past at =
      subst (λ (t : List Event). IsAt o s w d t) (sym (past_stays o.ahead o.clock a a' c k buf place c' now r told past)) at

-- a call of which nothing was done: whatever it found, no more than a front is there
pub found_front : (o : Begun) (s : ServerState) (w : Option (List ℕ)) (d : Option (List Datagram)) (k : ℕ) (past : List Event)
    → IsAt o s w d past → IsFront o s.script.head w d (with_found (found o.ahead k) past)
found_front o s w d k past at =
    let f = found_more (found o.ahead k) past in
    front_later o s.script.head w d f.0 past (with_found (found o.ahead k) past) f.1 (at_front o s s.script.head w d past refl at)

-- ---- the start

pub starts_at : (o : Begun) (s : ServerState) (w : Option (List ℕ)) (d : Option (List Datagram)) → Serves s [] → Adds o.written w (text_so_far s.script.head []) → d ≡ o.sent → IsAt o s w d []
starts_at o s w d serves text same = record { serves = serves; text = text; outgoing = nothing_sent o.sent d same }

pub starts_front : (o : Begun) (head : Head) (w : Option (List ℕ)) (d : Option (List Datagram)) → AddsFront o.written w (text_so_far head []) → d ≡ o.sent → IsFront o head w d []
starts_front o head w d text same = record { text = text; outgoing = sends_whole o.sent d [] (nothing_sent o.sent d same) }

-- nothing was written
pub nothing_front : (first now : Option (List ℕ)) (whole : List ℕ) → now ≡ first → AddsFront first now whole
nothing_front first now whole e = (0, omega arith, subst (λ (x : Option (List ℕ)). Adds first x []) (sym e) (adds_nothing first))
