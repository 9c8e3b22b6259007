-- A period of a spectator stands for one period of the relay's client: while it watches a slot the relay's copy is there, and so one period
-- holds the slot in the match, which no line gives to another.
use Rattle.std.proofs.Common.{◌≡◌, ◌∙◌, ℕ, ◌<◌, List, [], ◌∷◌, ◌++◌, Some, sym, ap, subst, inl, inr, ◌⊎◌, arith}
use Rattle.std.specs.Prelude.{reverse}
use Rattle.ghost_model.specs.Ghosts.{GhostEvent, slot}
use Rattle.ghost_client.specs.Copies.{copy_of}
use Rattle.stream_manager.specs.Limits.{Terms}
use Rattle.stream_manager.specs.Packets.{ghosts_seen}
use Rattle.stream_manager.specs.Server.{ghost_log}
use Rattle.stream_manager.proofs.Packets.{shows-alike}
use Rattle.pair_core.specs.History.{history}
use Rattle.pair_copies.specs.pair_laws.Laws.{Always}
use Rattle.pair_copies.specs.Reads.{AllShowReads}
use Rattle.match_script.specs.declared.types.BodyLine.{BodyLine}
use Rattle.match_script.specs.declared.types.Head.{Head}
use Rattle.own_lists.specs.Own.{OwnItem}
use Rattle.own_lists.specs.Kept.{journal}
use Rattle.own_lists.specs.Past.{client_terms, after}
use Rattle.own_lists.specs.Conditions.{AreOwn}
use Rattle.own_lists.specs.Agreement.{OwnListsHold}
use Rattle.own_lists.proofs.Meeting.{are_met}
use Rattle.match_laws.specs.Values.{ghosts_then}
use Rattle.match_laws.proofs.Grown.{grows}
use Rattle.match_laws.proofs.InOrder.{terms_fit}
use Rattle.relay_script.specs.declared.entries.Entry.{Entry}
use Rattle.relay_script.specs.declared.entries.Entry.TheVariants.{OfMatch, OfRelay}
use Rattle.relay_model.specs.Watching.{watched}
use Rattle.relay_report.specs.Met.{past_of, match_past, end_of, met}
use Rattle.relay_laws.specs.Moments.{RelayMoment}
use Rattle.relay_laws.specs.Shown.{StoodFor, PeriodsStandForOne}
use Rattle.relay_laws.proofs.Places.{AreEntries, are_entries, fewer, fewer_all}
use Rattle.relay_laws.proofs.Meeting.{table_none, met_packets, holds, line_shows, line_watch}
use Rattle.relay_laws.proofs.Match.{IsHonestAt, moment_of, are_lines_of, honest_of_fewer, fits}
use Rattle.relay_laws.proofs.Slots.{Same, still, item_same}

-- of two ends of one list one is an end of the other
record IsEnd {X : Type 0} (longer shorter : List X) : Type 0 where
  pub more : List X
  pub whole : more ++ shorter ≡ longer

rest_same : {X : Type 0} (x y : X) (xs ys : List X) → x ∷ xs ≡ y ∷ ys → xs ≡ ys
rest_same x y xs ys e = cc (e)

ends : {X : Type 0} (a b x y : List X) → a ++ x ≡ b ++ y → IsEnd x y ⊎ IsEnd y x
ends [] b x y e = inl (record { more = b; whole = sym e })
ends (p ∷ a) [] x y e = inr (record { more = p ∷ a; whole = e })
ends (p ∷ a) (q ∷ b) x y e = ends a b x y (rest_same p q (a ++ x) (b ++ y) e)

module _ (reads : Always AllShowReads) (own : OwnListsHold) (head : Head) (c s : ℕ) (below : c < head.clients) where
  abbrev t : Terms
  t = client_terms head c

  abbrev ghosts : List Entry → List GhostEvent
  ghosts past = ghosts_then (moment_of head (match_past past) c)

  abbrev items : List BodyLine → List OwnItem
  items lines = (after head lines).own c

  abbrev Watches : List Entry → ℕ → ℕ → Type 0
  Watches past at watch = (watched (met head c s past)).period at ≡ Some watch

  listed : (past : List Entry) → AreEntries head past → AreOwn t (items (match_past past))
  listed past h = (own head (match_past past) c (are_lines_of head past h) below).0

  -- who holds a slot behind these lines is one
  holder_is_one : (past : List Entry) → AreEntries head past → Same (ghosts past) (ghosts past)
  holder_is_one past h = still t table_none (items (match_past past)) (listed past h)

  abbrev Goes : List OwnItem → List OwnItem → Type 0
  Goes old new = AreOwn t new → Same (ghost_log (history t (journal t old)).server) (ghost_log (history t (journal t new)).server)

  -- and it is who held it before the last of them
  line_same : (entry : Entry) (past : List Entry) → AreEntries head (entry ∷ past) → Same (ghosts past) (ghosts (entry ∷ past))
  line_same (OfRelay line) past h = holder_is_one past (fewer head (OfRelay line) past h)
  line_same (OfMatch line) past h =
      grows Goes (λ items own. still t table_none items own) head (after head (match_past past)) c line
      (λ item made. item_same t table_none (items (match_past past)) item) (listed (OfMatch line ∷ past) h)

  -- a slot that is watched is held
  record IsHeld (past : List Entry) (at : ℕ) : Type 0 where
    pub n : ℕ
    pub holds_it : slot (ghosts past) n ≡ Some at

  held : (past : List Entry) → AreEntries head past → IsHonestAt head c (match_past past) → (at watch : ℕ) → Watches past at watch → IsHeld past at
  held past h honest at watch e =
      let is = (holds head c s past h).watches.each at watch e in
      let same = ap (λ l. copy_of l at) (ap ghosts_seen (met_packets head c s past) ∙ (shows-alike (end_of head c (match_past past))).ghosts) in
      let steps = journal t (items (match_past past)) in
      let shown = reads t steps (terms_fit head c h.fits below) (fits head c below past h own honest)
      (are_met t table_none (items (match_past past)) (listed past h)) honest at is.copy (sym same ∙ is.there) in
      record { n = shown.period; holds_it = shown.holds }

  -- a period that watches a slot had begun
  began : (past : List Entry) → AreEntries head past → (at watch : ℕ) → Watches past at watch → watch < (watched (met head c s past)).shows
  began past h at watch e =
      let all = (holds head c s past h).watches in
      let lt = (all.each at watch e).shown in
      let shows = all.shows in
      omega (arith, lt, shows)

  more_began : (later past : List Entry) (watch : ℕ) → watch < (watched (met head c s past)).shows → watch < (watched (met head c s (later ++ past))).shows
  more_began [] past watch lt = lt
  more_began (entry ∷ later) past watch lt =
      let rest = more_began later past watch lt in
      let le = line_shows head c s entry (later ++ past) in
      omega (arith, rest, le)

  -- ---- over lines

  watched_then : (later past : List Entry) (at watch : ℕ) → watch < (watched (met head c s past)).shows → Watches (later ++ past) at watch → Watches past at watch
  watched_then [] past at watch lt e = e
  watched_then (entry ∷ later) past at watch lt e =
      watched_then later past at watch lt (line_watch head c s entry (later ++ past) at watch (more_began later past watch lt) e)

  same_on : (later past : List Entry) → AreEntries head (later ++ past) → IsHonestAt head c (match_past (later ++ past)) → (at watch n m : ℕ)
      → watch < (watched (met head c s past)).shows → Watches (later ++ past) at watch → slot (ghosts past) n ≡ Some at → slot (ghosts (later ++ past)) m ≡ Some at
      → n ≡ m
  same_on [] past h honest at watch n m lt e a b = holder_is_one past h n m at a b
  same_on (entry ∷ later) past h honest at watch n m lt e a b =
      let before = fewer head entry (later ++ past) h in
      let honest_before = honest_of_fewer head c (entry ∷ []) (later ++ past) honest in
      let then = line_watch head c s entry (later ++ past) at watch (more_began later past watch lt) e in
      let k = held (later ++ past) before honest_before at watch then in
      same_on later past before honest_before at watch n k.n lt then a k.holds_it ∙ line_same entry (later ++ past) h k.n m at k.holds_it b

  -- an older moment and a newer one
  by_order : (past more : List Entry) → AreEntries head (more ++ past) → IsHonestAt head c (match_past (more ++ past)) → (at at' watch n m : ℕ)
      → Watches past at watch → slot (ghosts past) n ≡ Some at → Watches (more ++ past) at' watch → slot (ghosts (more ++ past)) m ≡ Some at' → n ≡ m
  by_order past more h honest at at' watch n m old a new b =
      let before = fewer_all head more past h in
      let lt = began past before at watch old in
      let one : at ≡ at' = (holds head c s past before).watches.apart at at' watch old (watched_then more past at' watch lt new) in
      same_on more past h honest at' watch n m lt new (a ∙ ap (λ (x : ℕ). Some x) one) b

  module _ (past : List Entry) (h : AreEntries head past) (honest : IsHonestAt head c (match_past past)) where
    abbrev now : RelayMoment
    now = record { head = head; client = c; past = past; spectator = s }

    -- where the first is of fewer lines
    from_end : (watch n m : ℕ) (a : StoodFor now watch n) (b : StoodFor now watch m) → IsEnd b.earlier a.earlier → n ≡ m
    from_end watch n m a b end =
        let whole = b.whole in
        let all = fewer_all head b.later b.earlier (subst (AreEntries head) (sym whole) h) in
        let honest_then = honest_of_fewer head c b.later b.earlier (subst (λ l. IsHonestAt head c (match_past l)) (sym whole) honest) in
        by_order a.earlier end.more (subst (AreEntries head) (sym end.whole) all)
        (subst (λ l. IsHonestAt head c (match_past l)) (sym end.whole) honest_then) a.at b.at watch n m a.watches a.holds
        (subst (λ l. Watches l b.at watch) (sym end.whole) b.watches) (subst (λ l. slot (ghosts l) m ≡ Some b.at) (sym end.whole) b.holds)

    pub stands_for_one : (watch n m : ℕ) → StoodFor now watch n → StoodFor now watch m → n ≡ m
    stands_for_one watch n m a b = by (ends a.later b.later a.earlier b.earlier (a.whole ∙ sym b.whole))
      where
        by : IsEnd a.earlier b.earlier ⊎ IsEnd b.earlier a.earlier → n ≡ m
        by (inl end) = sym (from_end watch m n b a end)
        by (inr end) = from_end watch n m a b end

pub periods_stand : Always AllShowReads → OwnListsHold → PeriodsStandForOne
periods_stand reads own r before placed s ranges is lt honest watch n m a b =
    stands_for_one reads own r.script.head r.client s ranges.client (past_of r.script.body placed.behind (reverse before))
    (are_entries r before placed ranges is) honest watch n m a b
