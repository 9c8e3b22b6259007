-- Turns, call by call, and a run that stops early: what was sent is a front of what the whole run asks for.
use Rattle.std.proofs.Common.{◌≡◌, ◌∙◌, ℕ, zero, suc, ◌+◌, ◌-◌, ◌≤◌, List, [], ◌∷◌, ◌++◌, length, take, Option, Some, None, Ok, sym, ap, subst, refl, arith, add-one, length-append, append_assoc}
use Rattle.tn_outside.specs.declared.peer.Peer.{Peer}
use Rattle.tn_outside.specs.Links.{Datagram, Ahead, found, Receives, Tells, answer_at}
use Rattle.tn_outside.specs.Totals.{Adds, AddsFront}
use Rattle.tn_outside.proofs.Totals.{adds_nothing, whole_front, front_longer}
use Rattle.net_rules.specs.declared.limits.TheConstants.{MAX_RECEIVED_BYTES}
use Rattle.net_rules.specs.Turns.{Event, Heard, Turned, turned, AreTurns, with_found, heard, events}
use Rattle.net_rules.specs.Places.{IsPlace}
use Rattle.net_rules.specs.Runs.{Begun}
use Rattle.net_rules.proofs.Places.{past_stays}
use Rattle.net_rules.proofs.Turning.{turns_go_on, events_more}
use Rattle.net_rules.proofs.Rounds.{event_is, nothing_sent}
use Rattle.net_join.specs.Joining.{sends, ending}
use Rattle.net_join.specs.Playing.{JoinerState, Joins}
use Rattle.net_join.specs.Stages.{nonce_of, IsAt, HeardMore, Went, Sent, SentFront, Joined, JoinedFront}
use Rattle.net_join.proofs.Heard.{heard_sends, sends_before}

-- ---- one call of `receive`

module _ (o : Begun) (k : ℕ) (a a' : Option Ahead) (c : Option (List ℕ)) (x : Peer × ℕ) (buf : List ℕ) (place : IsPlace o.ahead o.clock a c k)
    (r : Receives a a' (Ok (Some x)) buf) (l : length buf ≡ MAX_RECEIVED_BYTES) where
  pub came_joins : (j : JoinerState) (bytes : List ℕ) (past : List Event) → bytes ≡ take x.1 buf
      → Joins j (Heard (record { peer = x.0; bytes = bytes }) ∷ past) → Joins j (with_found (found o.ahead k) past)
  came_joins j bytes past e h = subst (λ (t : List Event). Joins j t) (event_is o k a a' c x buf place r l bytes past e) h

module _ (o : Begun) (k : ℕ) (a a' : Option Ahead) (c c' : Option (List ℕ)) (now : ℕ) (buf : List ℕ) (place : IsPlace o.ahead o.clock a c k)
    (r : Receives a a' (Ok None) buf) (told : Tells c c' (Ok now)) where
  pub quiet_joins : (j : JoinerState) (past : List Event) → Joins j past → Joins j (with_found (found o.ahead k) past)
  quiet_joins j past h = subst (λ (t : List Event). Joins j t) (sym (past_stays o.ahead o.clock a a' c k buf place c' now r told past)) h

-- ---- several calls

pub heard_nothing_more : (j : JoinerState) → HeardMore j j
heard_nothing_more j past h = ([], h, refl, refl)

pub heard_one : (old new : JoinerState) (d : Datagram) → new.nonce ≡ old.nonce → ((past : List Event) → Joins old past → Joins new (Heard d ∷ past)) → HeardMore old new
heard_one old new d same f past h = (Heard d ∷ [], f past h, refl, ap (λ (n : ℕ). sends n (Heard d ∷ past)) same ∙ heard_sends old.nonce d past)

pub heard_then : (a b c : JoinerState) → HeardMore a b → HeardMore b c → HeardMore a c
heard_then a b c f g past h =
    let r = f past h in
    let s = g (r.0 ++ past) r.1 in
    let e : (s.0 ++ r.0) ++ past ≡ s.0 ++ (r.0 ++ past) = append_assoc s.0 r.0 past in (
      s.0 ++ r.0,
      subst (λ (t : List Event). Joins c t) (sym e) s.1,
      ap turned e ∙ s.2 ∙ r.2,
      ap (sends c.nonce) e ∙ s.3 ∙ r.3,
    )

pub heard_on : (o : Begun) (behind n : ℕ) (j : JoinerState) (past : List Event)
    → Joins j (with_found (found o.ahead (behind + n)) (heard o.ahead behind n past)) → Joins j (heard o.ahead behind (n + 1) past)
heard_on o behind n j past h = subst (λ (k : ℕ). Joins j (heard o.ahead behind k past)) (sym (add-one n)) h

found_sends : (nonce : ℕ) (e : Option Datagram) (past : List Event) → sends nonce (with_found e past) ≡ sends nonce past
found_sends nonce None past = refl
found_sends nonce (Some d) past = heard_sends nonce (record { peer = d.peer; bytes = take MAX_RECEIVED_BYTES d.bytes }) past

heard_all : (nonce : ℕ) (from : Ahead) (behind n : ℕ) (past : List Event) → sends nonce (heard from behind n past) ≡ sends nonce past
heard_all nonce from behind zero past = refl
heard_all nonce from behind (suc n) past =
    found_sends nonce (found from (behind + n)) (heard from behind n past) ∙ heard_all nonce from behind n past

-- ---- turns

-- the end of a turn, behind what was heard in it
module _ (mid new : JoinerState) (d d' : Option (List Datagram)) (same : new.nonce ≡ mid.nonce)
    (joins : (past : List Event) → Joins mid past → Joins new (Turned ∷ past))
    (sent : (first : Option (List Datagram)) (past : List Event) → Joins mid past → Adds first d (sends mid.nonce past) → Adds first d' (sends mid.nonce (Turned ∷ past))) where
  ends : (first : Option (List Datagram)) (past : List Event) → Joins mid past → Adds first d (sends mid.nonce past) → IsAt first new d' (Turned ∷ past)
  ends first past h at = record {
    joins = joins past h;
    outgoing = subst (λ (n : ℕ). Adds first d' (sends n (Turned ∷ past))) (sym same) (sent first past h at);
  }

  pub turn_at : (old : JoinerState) (from : Ahead) (behind n : ℕ) (first : Option (List Datagram)) (past : List Event) → mid.nonce ≡ old.nonce
      → Joins mid (heard from behind n past) → IsAt first old d past → IsAt first new d' (Turned ∷ heard from behind n past)
  turn_at old from behind n first past kept h at =
      let e : sends old.nonce past ≡ sends mid.nonce (heard from behind n past) = ap (λ (k : ℕ). sends k past) (sym kept) ∙ sym (heard_all mid.nonce from behind n past) in
      ends first (heard from behind n past) h (subst (λ (x : List Datagram). Adds first d x) e at.outgoing)

  pub turn_went : (old : JoinerState) → HeardMore old mid → Went old d new d'
  turn_went old more first past at =
      let r = more past at.joins in
      (Turned ∷ (r.0 ++ past), ends first (r.0 ++ past) r.1 (subst (λ (x : List Datagram). Adds first d x) (sym r.3) at.outgoing), ap suc r.2)

pub starts_at : (first : Option (List Datagram)) (j : JoinerState) (d : Option (List Datagram)) → Joins j [] → d ≡ first → IsAt first j d []
starts_at first j d h same = record { joins = h; outgoing = nothing_sent first d same }

-- a run that stopped behind so many turns
pub stopped : (o : Begun) (j : JoinerState) (turns nonce : ℕ) (d d' : Option (List Datagram)) (counts : List ℕ) → AreTurns o.ahead o.clock counts → length counts ≤ turns
    → IsAt o.sent j d (events o.ahead counts) → j.nonce ≡ nonce → d' ≡ d → SentFront o turns nonce d'
stopped o j turns nonce d d' counts are le at same still =
    let r = turns_go_on o.ahead o.clock (turns - length counts) counts are in
    let v = events_more o.ahead r.0 counts in
    let s = sends_before nonce v.0 (events o.ahead counts) in
    let here : Adds o.sent d (sends nonce (events o.ahead counts)) = subst (λ (n : ℕ). Adds o.sent d (sends n (events o.ahead counts))) same at.outgoing in
    let now : Adds o.sent d' (sends nonce (events o.ahead counts)) = subst (λ (x : Option (List Datagram)). Adds o.sent x (sends nonce (events o.ahead counts))) (sym still) here in record {
      counts = r.0 ++ counts;
      turns_are = let e : length (r.0 ++ counts) ≡ turns = omega (arith, length-append r.0 counts, r.1, le) in e;
      are = r.2;
      sends = front_longer o.sent d' (sends nonce (events o.ahead counts)) s.0 (sends nonce (events o.ahead (r.0 ++ counts)))
          (whole_front o.sent d' (sends nonce (events o.ahead counts)) now) (ap (sends nonce) v.1 ∙ s.1);
    }

-- ---- the start

-- nothing was added
pub nothing_front : {A : Type 0} (first now : Option (List A)) (whole : List A) → now ≡ first → AddsFront first now whole
nothing_front {A} first now whole e = (0, omega arith, subst (λ (x : Option (List A)). Adds first x []) (sym e) (adds_nothing first))

-- nothing was sent or written
pub not_begun : (o : Begun) (turns : ℕ) (w : Option (List ℕ)) (d : Option (List Datagram)) → w ≡ o.written → d ≡ o.sent → JoinedFront turns o w d
not_begun o turns w d same still =
    let r = turns_go_on o.ahead o.clock turns [] tt in record {
      counts = r.0 ++ [];
      turns_are = let e : length (r.0 ++ []) ≡ turns = omega (arith, length-append r.0 [], r.1) in e;
      are = r.2;
      sends = nothing_front o.sent d (sends (nonce_of (answer_at o.clock 0)) (events o.ahead (r.0 ++ []))) still;
      text = nothing_front o.written w (ending (nonce_of (answer_at o.clock 0)) (events o.ahead (r.0 ++ []))) same;
    }

-- ---- the end

pub front_joined : (o : Begun) (turns nonce : ℕ) (w : Option (List ℕ)) (d : Option (List Datagram)) → nonce ≡ nonce_of (answer_at o.clock 0) → w ≡ o.written
    → SentFront o turns nonce d → JoinedFront turns o w d
front_joined o turns nonce w d is same f = record {
  counts = f.counts;
  turns_are = f.turns_are;
  are = f.are;
  sends = subst (λ (n : ℕ). AddsFront o.sent d (sends n (events o.ahead f.counts))) is f.sends;
  text = nothing_front o.written w (ending (nonce_of (answer_at o.clock 0)) (events o.ahead f.counts)) same;
}

module _ (o : Begun) (turns : ℕ) (j : JoinerState) (w w' : Option (List ℕ)) (d : Option (List Datagram)) (is : j.nonce ≡ nonce_of (answer_at o.clock 0)) (same : w ≡ o.written)
    (s : Sent o turns j d) where
  sent_all : Adds o.sent d (sends (nonce_of (answer_at o.clock 0)) (events o.ahead s.counts))
  sent_all = subst (λ (n : ℕ). Adds o.sent d (sends n (events o.ahead s.counts))) is s.at.outgoing

  pub all_joined : ((past : List Event) → Joins j past → Adds w w' (ending j.nonce past)) → Joined turns o w' d
  all_joined wrote = record {
    counts = s.counts;
    turns_are = s.turns_are;
    are = s.are;
    sends = sent_all;
    text = subst (λ (n : ℕ). Adds o.written w' (ending n (events o.ahead s.counts))) is
        (subst (λ (x : Option (List ℕ)). Adds x w' (ending j.nonce (events o.ahead s.counts))) same (wrote (events o.ahead s.counts) s.at.joins));
  }

  pub part_joined : ((past : List Event) → Joins j past → AddsFront w w' (ending j.nonce past)) → JoinedFront turns o w' d
  part_joined wrote = record {
    counts = s.counts;
    turns_are = s.turns_are;
    are = s.are;
    sends = whole_front o.sent d (sends (nonce_of (answer_at o.clock 0)) (events o.ahead s.counts)) sent_all;
    text = subst (λ (n : ℕ). AddsFront o.written w' (ending n (events o.ahead s.counts))) is
        (subst (λ (x : Option (List ℕ)). AddsFront x w' (ending j.nonce (events o.ahead s.counts))) same (wrote (events o.ahead s.counts) s.at.joins));
  }
