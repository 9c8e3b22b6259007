-- The unguaranteed events of one end: what its packets carry of those that were posted, and what it delivers of those
-- that the other end's packets carry.
use Rattle.std.proofs.Common.{◌≡◌, ℕ, suc, ◌+◌, ◌-◌, ◌<◌, ◌≤◌, max, Bool, true, false, ◌==◌, ◌&&◌, not, nat_le, List, [], ◌∷◌, ◌++◌, if◌then◌else◌, length, map, take, drop, Option, Some, None, Ok, Err, refl, sym, ◌∙◌, ap, subst, arith, append_assoc, length-append}
use Rattle.std.specs.Prelude.{slice_get}
use Rattle.std.proofs.lemmas.Bool.Decides.{nat_tests}
use Rattle.std.proofs.lemmas.List.{append-nil, take-append-drop}
use Rattle.std.proofs.Math.Seq.{drop-append_seam}
use Rattle.tn_types.specs.declared.choices.Class.{Class}
use Rattle.tn_types.specs.declared.choices.Class.TheVariants.{Guaranteed, Loose}
use Rattle.notify_window.specs.Log.{sent_of, horizon_of, Fate}
use Rattle.wire_format.specs.declared.events.EventItem.{EventItem}
use Rattle.event_manager.specs.Sending.{SenderEvent, posted_of, waiting_of, is_due, is_loose, loose_count, loose_item, guaranteed_item, items_that, due_guaranteed, due_of}
use Rattle.event_manager.specs.Receiving.{items_onto, run_of, payloads, guaranteed_event, by_class, news, delivered_of}
use Rattle.conn_packing.specs.stream_manager.declared.config.Config.{Config}
use Rattle.conn_packing.specs.stream_manager.declared.fault.HeadFault.{HeadFault}
use Rattle.conn_packing.specs.stream_manager.declared.fault.HeadFault.TheVariants.{WrongClient, Old}
use Rattle.tn_types.specs.Checks.{Checked, then_check}
use Rattle.tn_types.specs.Fitting.{fitting}
use Rattle.conn_packing.specs.stream_manager.Wire.{event_bits}
use Rattle.conn_packing.specs.stream_manager.End.{Seen, EndEvent, Posted, Packed, Pinged, Took, window_log, sender_log, fates, events_for, came_of, delivered_at, client_or_old, ack_answer, head_answer}
use Rattle.tn_types.specs.Prefix.{IsPrefixOf}
use Rattle.tn_types.specs.Subsequence.{IsSubsequenceOf}
use Rattle.pair_laws.specs.LooseEvents.{of_loose, loose_of, loose_posted_at}
use Rattle.conn_packing.proofs.Lists.{slice_get-at}
use Rattle.pair_laws.proofs.Subsequences.{sub-same, sub-drop, sub-front, sub-trans, sub-append, joined, joined-push, sub-take, sub-all, sub-push, joined-more, get-push}

-- ---- the unguaranteed ones of a packet

abbrev of_number : Option ℕ → List ℕ → List (List ℕ) → List (List ℕ)
of_number None v vs = v ∷ vs
of_number (Some n) v vs = vs

abbrev pub loose_in : List EventItem → List (List ℕ)
loose_in [] = []
loose_in (item ∷ items) = of_number item.number item.payload (loose_in items)

number-append : (n : Option ℕ) (v : List ℕ) (vs ws : List (List ℕ)) → of_number n v (vs ++ ws) ≡ of_number n v vs ++ ws
number-append None v vs ws = refl
number-append (Some n) v vs ws = refl

loose_in-append : (xs ys : List EventItem) → loose_in (xs ++ ys) ≡ loose_in xs ++ loose_in ys
loose_in-append [] ys = refl
loose_in-append (x ∷ xs) ys = ap (λ (l : List (List ℕ)). of_number x.number x.payload l) (loose_in-append xs ys) ∙ number-append x.number x.payload (loose_in xs) (loose_in ys)

loose_in-loose : (vs : List (List ℕ)) → loose_in (map loose_item vs) ≡ vs
loose_in-loose [] = refl
loose_in-loose (v ∷ vs) = ap (λ (l : List (List ℕ)). v ∷ l) (loose_in-loose vs)

loose_in-guaranteed : (f : ℕ → Bool) (i : ℕ) (vs : List (List ℕ)) → loose_in (items_that f i vs) ≡ []
loose_in-guaranteed f i [] = refl
loose_in-guaranteed f i (v ∷ vs) = go (f i) (loose_in-guaranteed f (suc i) vs)
  where
    go : (b : Bool) → loose_in (items_that f (suc i) vs) ≡ [] → loose_in (if b then guaranteed_item i v ∷ items_that f (suc i) vs else items_that f (suc i) vs) ≡ []
    go true rest = rest
    go false rest = rest

loose_in-due : (fate : ℕ → Fate) (log : List SenderEvent) → loose_in (due_of fate log) ≡ waiting_of log
unfolding due_guaranteed
loose_in-due fate log =
    loose_in-append (due_guaranteed fate log) (map loose_item (waiting_of log))
    ∙ ap (λ (l : List (List ℕ)). l ++ loose_in (map loose_item (waiting_of log))) (loose_in-guaranteed (is_due fate log) 0 (posted_of log))
    ∙ loose_in-loose (waiting_of log)

count-is : (items : List EventItem) → loose_count items ≡ length (loose_in items)
count-is [] = refl
count-is (item ∷ items) = go item.number (count-is items)
  where
    go : (n : Option ℕ) → loose_count items ≡ length (loose_in items) → (if is_loose n then suc (loose_count items) else loose_count items) ≡ length (of_number n item.payload (loose_in items))
    go None e = ap suc e
    go (Some n) e = e

fitting-prefix : {A : Type 0} (size : A → ℕ) (room : ℕ) (xs : List A) → IsPrefixOf (fitting size room xs) xs
fitting-prefix size room [] = ([], refl)
fitting-prefix {A} size room (x ∷ xs) = go (nat_le (size x) room) (fitting-prefix size (room - size x) xs)
  where
    go : (b : Bool) → IsPrefixOf (fitting size (room - size x) xs) xs → IsPrefixOf (if b then x ∷ fitting size (room - size x) xs else []) (x ∷ xs)
    go true rest = (rest.0, ap (λ (l : List A). x ∷ l) rest.1)
    go false rest = (x ∷ xs, refl)

-- a packet carries the first of those that wait, and the others wait on
front-waits : (items : List EventItem) (due : List EventItem) (waiting : List (List ℕ)) → IsPrefixOf items due → loose_in due ≡ waiting → loose_in items ++ drop (loose_count items) waiting ≡ waiting
front-waits items due waiting front is =
    let whole : loose_in items ++ loose_in front.0 ≡ waiting = sym (loose_in-append items front.0) ∙ ap loose_in front.1 ∙ is in
    let left : drop (loose_count items) waiting ≡ loose_in front.0 =
    ap (λ (n : ℕ). drop n waiting) (count-is items) ∙ ap (λ (l : List (List ℕ)). drop (length (loose_in items)) l) (sym whole) ∙ drop-append_seam (loose_in items) (loose_in front.0) in
    ap (λ (l : List (List ℕ)). loose_in items ++ l) left ∙ whole

events-wait : (c : Config) (room : ℕ) (log : List EndEvent) → loose_in (events_for c room log) ++ drop (loose_count (events_for c room log)) (waiting_of (sender_log log)) ≡ waiting_of (sender_log log)
events-wait c room log = front-waits (events_for c room log) due (waiting_of (sender_log log)) front (loose_in-due (fates log) (sender_log log))
  where
    due : List EventItem
    due = due_of (fates log) (sender_log log)

    front : IsPrefixOf (events_for c room log) due
    front =
        let fits = fitting-prefix (event_bits c) room (take 31 due) in
        (fits.0 ++ drop 31 due, sym (append_assoc (events_for c room log) fits.0 (drop 31 due)) ∙ ap (λ (l : List EventItem). l ++ drop 31 due) fits.1 ∙ take-append-drop 31 due)

-- ---- what is delivered

loose_of-append : (xs ys : List (Class × List ℕ)) → loose_of (xs ++ ys) ≡ loose_of xs ++ loose_of ys
loose_of-append [] ys = refl
loose_of-append (x ∷ xs) ys = go x.0 (loose_of-append xs ys)
  where
    go : (c : Class) → loose_of (xs ++ ys) ≡ loose_of xs ++ loose_of ys → of_loose c x.1 (loose_of (xs ++ ys)) ≡ of_loose c x.1 (loose_of xs) ++ loose_of ys
    go Guaranteed e = e
    go Loose e = ap (λ (l : List (List ℕ)). x.1 ∷ l) e

loose_of-guaranteed : (vs : List (List ℕ)) → loose_of (map guaranteed_event vs) ≡ []
loose_of-guaranteed [] = refl
loose_of-guaranteed (v ∷ vs) = loose_of-guaranteed vs

loose-news : (item : EventItem) (came : List EventItem) → loose_of (news item came) ≡ of_number item.number item.payload []
loose-news item came = go item.number
  where
    more : List (List ℕ)
    more = payloads (item ∷ came) (run_of came) (run_of (item ∷ came) - run_of came)

    go : (n : Option ℕ) → loose_of (by_class n ((Loose, item.payload) ∷ []) (map guaranteed_event more)) ≡ of_number n item.payload []
    go None = refl
    go (Some n) = loose_of-guaranteed more

delivered-items : (items came : List EventItem) → loose_of (delivered_of (items_onto items came)) ≡ loose_of (delivered_of came) ++ loose_in items
delivered-items [] came = sym (append-nil (loose_of (delivered_of came)))
delivered-items (item ∷ items) came =
    let old : List (List ℕ) = loose_of (delivered_of came) in
    delivered-items items (item ∷ came)
    ∙ ap (λ (l : List (List ℕ)). l ++ loose_in items) (loose_of-append (delivered_of came) (news item came) ∙ ap (λ (l : List (List ℕ)). old ++ l) (loose-news item came))
    ∙ append_assoc old (of_number item.number item.payload []) (loose_in items)
    ∙ ap (λ (l : List (List ℕ)). old ++ l) (sym (number-append item.number item.payload [] (loose_in items)))

-- ---- what was sent

-- the unguaranteed events of each data packet, the oldest packet first
abbrev pub written : List EndEvent → List (List (List ℕ))
written [] = []
written (Posted class v ∷ log) = written log
written (Packed p ∷ log) = written log ++ loose_in p.events ∷ []
written (Pinged p ∷ log) = written log
written (Took p ∷ log) = written log

-- each event that was written or waits was posted, and packets have their numbers by their place
pub record Sends (log : List EndEvent) : Type 0 where
  pub sent : sent_of (window_log log) ≡ length (written log)
  pub queue : IsSubsequenceOf (joined (written log) ++ waiting_of (sender_log log)) (loose_posted_at log)

pub start-sends : Sends []
start-sends = record { sent = refl; queue = refl }

pub posted-sends : (log : List EndEvent) (v : List ℕ) → Sends log → Sends (Posted Guaranteed v ∷ log)
posted-sends log v h = record { sent = h.sent; queue = h.queue }

pub loose-sends : (log : List EndEvent) (v : List ℕ) → Sends log → Sends (Posted Loose v ∷ log)
loose-sends log v h =
    let ws : List (List ℕ) = joined (written log) in
    let waiting : List (List ℕ) = waiting_of (sender_log log) in
    let dropped : ℕ = length (waiting ++ v ∷ []) - 64 in
    record {
      sent = h.sent;
      queue = sub-trans (ws ++ drop dropped (waiting ++ v ∷ [])) (ws ++ (waiting ++ v ∷ [])) (loose_posted_at log ++ v ∷ [])
          (sub-append ws ws (drop dropped (waiting ++ v ∷ [])) (waiting ++ v ∷ []) (sub-same ws) (sub-drop dropped (waiting ++ v ∷ [])))
          (subst (λ (l : List (List ℕ)). IsSubsequenceOf l (loose_posted_at log ++ v ∷ [])) (append_assoc ws waiting (v ∷ []))
          (sub-append (ws ++ waiting) (loose_posted_at log) (v ∷ []) (v ∷ []) h.queue (sub-same (v ∷ []))));
    }

pub packed-sends : (c : Config) (log : List EndEvent) (p : Seen) (room : ℕ) → p.events ≡ events_for c room log → Sends log → Sends (Packed p ∷ log)
packed-sends c log p room is h =
    let ws : List (List ℕ) = joined (written log) in
    let waiting : List (List ℕ) = waiting_of (sender_log log) in
    let waits : loose_in p.events ++ drop (loose_count p.events) waiting ≡ waiting =
    subst (λ (items : List EventItem). loose_in items ++ drop (loose_count items) waiting ≡ waiting) (sym is) (events-wait c room log) in
    let same : joined (written log ++ loose_in p.events ∷ []) ++ drop (loose_count p.events) waiting ≡ ws ++ waiting =
    ap (λ (l : List (List ℕ)). l ++ drop (loose_count p.events) waiting) (joined-push (written log) (loose_in p.events))
    ∙ append_assoc ws (loose_in p.events) (drop (loose_count p.events) waiting) ∙ ap (λ (l : List (List ℕ)). ws ++ l) waits in
    record {
      sent = omega (arith, h.sent, length-append (written log) (loose_in p.events ∷ []));
      queue = subst (λ (l : List (List ℕ)). IsSubsequenceOf l (loose_posted_at log)) (sym same) h.queue;
    }

pub pinged-sends : (log : List EndEvent) (p : Seen) → Sends log → Sends (Pinged p ∷ log)
pinged-sends log p h = record { sent = h.sent; queue = h.queue }

pub took-sends : (log : List EndEvent) (p : Seen) → Sends log → Sends (Took p ∷ log)
took-sends log p h = record { sent = h.sent; queue = h.queue }

-- a ping carries none, and a data packet those of its number
abbrev pub Flies : List (List (List ℕ)) → Bool → ℕ → List (List ℕ) → Type 0
Flies ws true seq vs = vs ≡ []
Flies ws false seq vs = (k : ℕ) × (seq ≡ suc k) × (slice_get ws k ≡ Some vs)

pub flies-push : (ws : List (List (List ℕ))) (w : List (List ℕ)) (ping : Bool) (seq : ℕ) (vs : List (List ℕ)) → Flies ws ping seq vs → Flies (ws ++ w ∷ []) ping seq vs
flies-push ws w true seq vs h = h
flies-push ws w false seq vs h = (h.0, h.1, get-push ws h.0 vs w h.2)

pub flies-last : (log : List EndEvent) (seq : ℕ) (vs : List (List ℕ)) → seq ≡ sent_of (window_log log) + 1 → Sends log → Flies (written log ++ vs ∷ []) false seq vs
flies-last log seq vs is h = (length (written log), omega (arith, h.sent), slice_get-at (written log) vs [])

-- ---- what came

-- a packet that was not refused has a number above the horizon, unless it is a ping
abbrev pub IsNew : Bool → ℕ → ℕ → Type 0
IsNew true seq horizon = Unit {0}
IsNew false seq horizon = horizon < seq

abbrev Passes : Checked HeadFault → Type 0
Passes a = a ≡ Ok tt

pub not-passed : (client : ℕ) (log : List EndEvent) (p : Seen) → Passes (client_or_old client log p) → IsNew p.ping p.head.seq (horizon_of (window_log log))
not-passed client log p ok = first (p.head.client == client) ok
  where
    horizon : ℕ
    horizon = horizon_of (window_log log)

    last : (ping old : Bool) → nat_le p.head.seq horizon ≡ old → Passes (if not ping && old then Err (Old p.head.seq horizon) else Ok tt) → IsNew ping p.head.seq horizon
    last true old e ok = tt
    last false true e ok = absurd cc
    last false false e ok = grind (arith, nat_tests)

    first : (b : Bool) → Passes (if not b then Err (WrongClient p.head.client) else (if not p.ping && nat_le p.head.seq horizon then Err (Old p.head.seq horizon) else Ok tt)) → IsNew p.ping p.head.seq horizon
    first false ok = absurd cc
    first true ok = last p.ping (nat_le p.head.seq horizon) refl ok

pub not-old : (client : ℕ) (log : List EndEvent) (p : Seen) → Passes (head_answer client log p) → IsNew p.ping p.head.seq (horizon_of (window_log log))
not-old client log p ok = not-passed client log p (first (client_or_old client log p) (ack_answer log p) ok)
  where
    first : (a b : Checked HeadFault) → Passes (then_check a b) → Passes a
    first (Ok u) b ok = refl
    first (Err e) b ok = absurd cc

-- what an end delivered was in packets up to its horizon
abbrev pub Gets : List (List (List ℕ)) → List EndEvent → Type 0
Gets ws log = IsSubsequenceOf (loose_of (delivered_at log)) (joined (take (horizon_of (window_log log)) ws))

pub gets-push : (ws : List (List (List ℕ))) (w : List (List ℕ)) (log : List EndEvent) → Gets ws log → Gets (ws ++ w ∷ []) log
gets-push ws w log h = sub-trans (loose_of (delivered_at log)) (joined (take horizon ws)) (joined (take horizon (ws ++ w ∷ []))) h (sub-push horizon ws w)
  where
    horizon : ℕ
    horizon = horizon_of (window_log log)

pub gets-more : (ws : List (List (List ℕ))) (log : List EndEvent) (p : Seen) → Flies ws p.ping p.head.seq (loose_in p.events) → IsNew p.ping p.head.seq (horizon_of (window_log log)) → Gets ws log → Gets ws (Took p ∷ log)
gets-more ws log p flies new h = subst (λ (l : List (List ℕ)). IsSubsequenceOf l (joined (take (max horizon p.head.seq) ws))) (sym (delivered-items p.events (came_of log))) (go p.ping (loose_in p.events) flies new)
  where
    horizon : ℕ
    horizon = horizon_of (window_log log)

    old : List (List ℕ)
    old = loose_of (delivered_at log)

    go : (ping : Bool) (vs : List (List ℕ)) → Flies ws ping p.head.seq vs → IsNew ping p.head.seq horizon → IsSubsequenceOf (old ++ vs) (joined (take (max horizon p.head.seq) ws))
    go true vs none new =
        subst (λ (l : List (List ℕ)). IsSubsequenceOf l (joined (take (max horizon p.head.seq) ws))) (sym (ap (λ (l : List (List ℕ)). old ++ l) none ∙ append-nil old))
        (sub-trans old (joined (take horizon ws)) (joined (take (max horizon p.head.seq) ws)) h (sub-take horizon (max horizon p.head.seq) ws (omega arith)))
    go false vs at new =
        let low : horizon ≤ at.0 = omega (arith, at.1, new) in
        let top : suc at.0 ≡ max horizon p.head.seq = omega (arith, at.1, new) in
        subst (λ (n : ℕ). IsSubsequenceOf (old ++ vs) (joined (take n ws))) top
        (subst (λ (l : List (List ℕ)). IsSubsequenceOf (old ++ vs) l) (sym (joined-more at.0 ws vs at.2))
        (sub-append old (joined (take at.0 ws)) vs vs (sub-trans old (joined (take horizon ws)) (joined (take at.0 ws)) h (sub-take horizon at.0 ws low)) (sub-same vs)))

-- and so it was posted
pub gets-posted : (sender log : List EndEvent) → Sends sender → Gets (written sender) log → IsSubsequenceOf (loose_of (delivered_at log)) (loose_posted_at sender)
gets-posted sender log s h =
    let ws : List (List ℕ) = joined (written sender) in
    let waiting : List (List ℕ) = waiting_of (sender_log sender) in
    let horizon : ℕ = horizon_of (window_log log) in
    let old : List (List ℕ) = loose_of (delivered_at log) in
    sub-trans old ws (loose_posted_at sender) (sub-trans old (joined (take horizon (written sender))) ws h (sub-all horizon (written sender)))
    (sub-trans ws (ws ++ waiting) (loose_posted_at sender) (sub-front ws waiting) s.queue)
