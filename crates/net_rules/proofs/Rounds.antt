-- Where a run begins on the link and on the clock, when a turn behind others is due, and what a call of `receive` brings.
use Rattle.std.proofs.Common.{◌≡◌, ◌∙◌, ℕ, suc, ◌+◌, ◌*◌, List, [], ◌∷◌, length, take, Option, Some, Ok, sym, ap, subst, arith}
use Rattle.tn_outside.specs.declared.peer.Peer.{Peer}
use Rattle.tn_outside.specs.Links.{Datagram, Ahead, found, Receives, Tells, answer_at, later}
use Rattle.tn_outside.specs.Totals.{Adds}
use Rattle.tn_outside.proofs.Totals.{adds_nothing}
use Rattle.net_rules.specs.declared.limits.TheConstants.{MAX_RECEIVED_BYTES, TURN_MILLISECONDS}
use Rattle.net_rules.specs.Turns.{Event, Heard, with_found}
use Rattle.net_rules.specs.Places.{IsPlace, IsDueAt}
use Rattle.net_rules.specs.Runs.{Begun}
use Rattle.net_rules.proofs.Places.{answer_later, came}

pub starts_place : (o : Begun) (a : Option Ahead) (c c' : Option (List ℕ)) (start : ℕ) → a ≡ Some o.ahead → c ≡ Some o.clock → Tells c c' (Ok start)
    → (start ≡ answer_at o.clock 0) × IsPlace o.ahead o.clock a c' 0
starts_place o a c c' start ahead_is clock_is told =
    let t = subst (λ (x : Option (List ℕ)). Tells x c' (Ok start)) clock_is told in (
      t.0,
      record {
        rest = o.ahead;
        ahead_is = ahead_is;
        behind = λ i. ap (found o.ahead) (let e : i ≡ 0 + i = omega arith in e);
        answers = later o.clock;
        clock_is = t.1;
        asked = λ i. answer_later o.clock i ∙ ap (answer_at o.clock) (let e : suc i ≡ suc 0 + i = omega arith in e);
      },
    )

pub due_at : (times counts : List ℕ) (start due t : ℕ) → start ≡ answer_at times 0 → due ≡ TURN_MILLISECONDS * t → length counts ≡ t → IsDueAt times start due (length counts)
due_at times counts start due t begun is len = record { begun = begun; wait = is ∙ ap (λ (n : ℕ). TURN_MILLISECONDS * n) (sym len) }

pub place_next : (from : Ahead) (times : List ℕ) (a a' : Option Ahead) (c : Option (List ℕ)) (behind n : ℕ) → a' ≡ a → IsPlace from times a c (behind + n) → IsPlace from times a' c (n + behind)
place_next from times a a' c behind n same p =
    subst (λ (z : Option Ahead). IsPlace from times z c (n + behind)) (sym same)
    (subst (λ (k : ℕ). IsPlace from times a c k) (let e : behind + n ≡ n + behind = omega arith in e) p)

-- what a call of `receive` gave is what it found
pub event_is : (o : Begun) (k : ℕ) (a a' : Option Ahead) (c : Option (List ℕ)) (x : Peer × ℕ) (buf : List ℕ) → IsPlace o.ahead o.clock a c k
    → Receives a a' (Ok (Some x)) buf → length buf ≡ MAX_RECEIVED_BYTES → (bytes : List ℕ) (past : List Event) → bytes ≡ take x.1 buf
    → Heard (record { peer = x.0; bytes = bytes }) ∷ past ≡ with_found (found o.ahead k) past
event_is o k a a' c x buf place r l bytes past e =
    ap (λ (b : List ℕ). Heard (record { peer = x.0; bytes = b }) ∷ past) e ∙ sym (came o.ahead o.clock a a' c k buf place x r l past)

pub nothing_sent : (first now : Option (List Datagram)) → now ≡ first → Adds first now []
nothing_sent first now e = subst (λ (x : Option (List Datagram)). Adds first x []) (sym e) (adds_nothing first)
