-- The moves that ticks took are the first that the server accepted: a tick takes the oldest that waits, and no line takes back
-- what was accepted.
use Rattle.std.proofs.Common.{◌≡◌, ℕ, ◌+◌, ◌-◌, Bool, true, false, cond, nat_le, List, [], ◌∷◌, ◌++◌, length, take, drop, Option, Some, None, Result, Ok, Err, if◌then◌else◌, refl, sym, ap, subst, ◌∙◌, arith, length-append, append_assoc, append-nil}
use Rattle.std.proofs.Math.Seq.{drop-append_seam}
use Rattle.std.specs.Prelude.{ℤ, map, slice_get, is_some}
use Rattle.std.specs.Result.{is_ok}
use Rattle.tn_types.specs.declared.choices.Class.{Class}
use Rattle.tn_types.specs.declared.choices.Class.TheVariants.{Guaranteed, Loose}
use Rattle.tn_types.specs.declared.choices.Drain.{Drain}
use Rattle.tn_types.specs.declared.moves.MoveBits.{MoveBits}
use Rattle.tn_types.specs.Prefix.{IsPrefixOf}
use Rattle.notify_window.specs.declared.SendState.{SendState}
use Rattle.notify_window.specs.declared.SendState.TheVariants.{Held, Worn, Room}
use Rattle.move_manager.specs.Sending.{Packet}
use Rattle.move_manager.specs.Accepting.{new_count, accept}
use Rattle.wire_format.specs.declared.client.ClientPacket.{ClientPacket}
use Rattle.wire_format.specs.declared.client.ClientPacket.TheVariants as up
use Rattle.match_script.specs.declared.types.BodyLine.{BodyLine}
use Rattle.match_script.specs.declared.types.BodyLine.TheVariants as script
use Rattle.match_script.specs.declared.types.Head.{Head}
use Rattle.client_scope.specs.declared.period.Near.{Near as NearPeriod}
use Rattle.client_scope.specs.Scans.{shown}
use Rattle.client_scope.specs.Changes.{hides, nears, shows}
use Rattle.world_scope.specs.Scope.{visible_list}
use Rattle.world_sim.specs.Worlds.{next}
use Rattle.stream_manager.specs.declared.fault.ArriveFault.{ArriveFault}
use Rattle.stream_manager.specs.Limits.{Terms}
use Rattle.stream_manager.specs.Server as server
use Rattle.stream_manager.specs.Server.{ServerEvent, server_state, server_answer, took_at_server, posted_at_server, accepted_at}
use Rattle.stream_manager.specs.Client.{client_datagrams}
use Rattle.conn_packing.specs.Packs.{absorbing, values_of}
use Rattle.client_seat.specs.pair_core.History.{PairStep, Post, Pack, Up, Raw, history, server_posts, server_gets}
use Rattle.client_seat.specs.pair_core.Answers.{accepted_in, sampled_in}
use Rattle.client_seat.specs.own_lists.Own.{OwnShow, OwnItem, Line}
use Rattle.client_seat.specs.own_lists.Course.{Course, onto, with_step, with_steps, scan_steps}
use Rattle.client_seat.specs.own_lists.Kept.{Kept, put, after_line, with_course, begins, all_begin, after_scan, follows, kept}
use Rattle.client_seat.specs.own_lists.Past.{client_terms, kept_by, own_show, scan_item, own_writes, move_of, moves_of, taken_from, after}
use Rattle.client_seat.specs.own_lists.Agreement.{OwnListsHold}
use Rattle.client_seat.proofs.Below.own_lists.KeptValues.{wrote_course}
use Rattle.client_seat.proofs.Below.own_lists.Meeting.{scan_journal}
use Rattle.match_laws.specs.Laws.{first, journal_of}
use Rattle.match_laws.specs.Applied.{one_move, applied, AppliedAreAccepted, AppliedInOrder}
use Rattle.match_laws.proofs.Grown.{put_own}
use Rattle.match_laws.proofs.InOrder.{moves_in_order}

-- ---- prefixes

whole : {A : Type 0} (xs : List A) → IsPrefixOf xs xs
whole xs = ([], append-nil xs)

front-of : {A : Type 0} (xs ys : List A) → IsPrefixOf xs (xs ++ ys)
front-of xs ys = (ys, refl)

longer : {A : Type 0} (xs ys zs : List A) → IsPrefixOf xs ys → IsPrefixOf ys zs → IsPrefixOf xs zs
longer xs ys zs p q = (p.0 ++ q.0, sym (append_assoc xs p.0 q.0) ∙ ap (λ l. l ++ q.0) p.1 ∙ q.1)

-- ---- accepted moves stay accepted

module _ (t : Terms) where
  abbrev Grows : List ServerEvent → List ServerEvent → Type 0
  Grows old new = IsPrefixOf (accepted_at t.config old) (accepted_at t.config new)

  accept-grows : (life room : ℕ) (p : Packet) (acc : List MoveBits) → IsPrefixOf acc (accept life room p acc)
  accept-grows life room p acc = go (nat_le p.first (length acc))
    where
      go : (b : Bool)
          → IsPrefixOf acc (cond b (acc ++ take (new_count life room (length acc) p) (drop (length acc - p.first) p.moves)) acc)
      go true = front-of acc _
      go false = whole acc

  took-grows : (s : List ServerEvent) (room : ℕ) (a : Result ClientPacket ArriveFault) → Grows s (took_at_server s room a)
  took-grows s room (Ok (up.Ping head)) = whole (accepted_at t.config s)
  took-grows s room (Ok (up.Body p)) =
      accept-grows t.config.life room (record { first = p.first; moves = p.moves }) (accepted_at t.config s)
  took-grows s room (Err e) = whole (accepted_at t.config s)

  gets-grows : (s : List ServerEvent) (room : ℕ) (o : Option (List ℕ)) → Grows s (server_gets t.config room o s)
  gets-grows s room None = whole (accepted_at t.config s)
  gets-grows s room (Some bytes) = took-grows s room (server_answer t.config s bytes)

  posts-grows : (class : Class) (v : List ℕ) (s : List ServerEvent) → Grows s (server_posts t.config class v s)
  posts-grows Loose v s = whole (accepted_at t.config s)
  posts-grows Guaranteed v s = go (is_ok (posted_at_server t.config s))
    where
      go : (b : Bool) → Grows s (if b then server.Posted Guaranteed v ∷ s else s)
      go true = whole (accepted_at t.config s)
      go false = whole (accepted_at t.config s)

  absorbed-same : (drains : List Drain) (s : List ServerEvent) → accepted_at t.config (absorbing drains s) ≡ accepted_at t.config s
  absorbed-same [] s = refl
  absorbed-same (d ∷ drains) s = absorbed-same drains (server.Scoped (server.Absorb d.n d.bits) ∷ s)

  packs-grows : (s : List ServerEvent) (values : List ℤ) → Grows s (server.packing t s values)
  packs-grows s values = go (server_state t.config s)
    where
      go : (state : SendState) → Grows s (server.packed_onto t s values state)
      go Held = whole (accepted_at t.config s)
      go Worn = whole (accepted_at t.config s)
      go Room = whole (accepted_at t.config s)

  step-grows : (step : PairStep) (steps : List PairStep) → IsPrefixOf (accepted_in t steps) (accepted_in t (step ∷ steps))
  step-grows (Post class v) steps = posts-grows class v (history t steps).server
  step-grows (Pack drains reads) steps =
      let s = (history t steps).server in
      let later = absorbing drains s in
      subst (λ l. IsPrefixOf l (accepted_at t.config (server.packing t later (values_of reads)))) (absorbed-same drains s)
      (packs-grows later (values_of reads))
  step-grows (Up k room) steps =
      let h = history t steps in gets-grows h.server room (slice_get (client_datagrams t.config h.client) k)
  step-grows (Raw bytes room) steps = gets-grows (history t steps).server room (Some bytes)
  step-grows step steps = whole (accepted_in t steps)

  onto-grows : (more steps : List PairStep) → IsPrefixOf (accepted_in t steps) (accepted_in t (onto more steps))
  onto-grows [] steps = whole (accepted_in t steps)
  onto-grows (step ∷ more) steps =
      longer (accepted_in t steps) (accepted_in t (step ∷ steps)) (accepted_in t (onto more (step ∷ steps)))
      (step-grows step steps) (onto-grows more (step ∷ steps))

  -- ---- what takes no move

  record Leaves (old new : Course) : Type 0 where
    pub taken : new.taken ≡ old.taken
    pub accepted : IsPrefixOf (accepted_in t old.steps) (accepted_in t new.steps)

  leaves-as-is : (k : Course) → Leaves k k
  leaves-as-is k = record { taken = refl; accepted = whole (accepted_in t k.steps) }

  step-leaves : (step : PairStep) (k : Course) → Leaves k (with_step step k)
  step-leaves step k = record { taken = refl; accepted = step-grows step k.steps }

  line-leaves : (line : BodyLine) (k : Kept) → Leaves k.course (after_line t line k).course
  line-leaves script.Tick k = leaves-as-is k.course
  line-leaves (script.Scan c) k = leaves-as-is k.course
  line-leaves (script.Show c) k = leaves-as-is k.course
  line-leaves script.World k = leaves-as-is k.course
  line-leaves line k = step-leaves _ k.course

  begun-taken : (shows : List OwnShow) (k : Kept) → (all_begin shows k).course.taken ≡ k.course.taken
  begun-taken [] k = refl
  begun-taken (s ∷ shows) k = begun-taken shows (begins s k)

  scan-leaves : (hides : List ℕ) (nears : List NearPeriod) (shows : List OwnShow) (k : Kept)
      → Leaves k.course (after_scan hides nears shows k).course
  scan-leaves hides nears shows k = record {
    taken = begun-taken shows (with_course (with_steps (scan_steps hides nears []) k.course) k);
    accepted = subst (λ steps. IsPrefixOf (accepted_in t k.course.steps) (accepted_in t steps)) (sym (scan_journal hides nears shows k))
        (onto-grows (scan_steps hides nears (map (λ s. s.how) shows)) k.course.steps);
  }

-- ---- what a tick takes

-- these are the first of the accepted moves, and so many were taken
pub record AreTaken (xs : List MoveBits) (t : Terms) (k : Course) : Type 0 where
  pub front : IsPrefixOf xs (accepted_in t k.steps)
  pub count : length xs ≡ k.taken

-- one more, where this is the oldest that waits
one-more : (xs acc : List MoveBits) (o : Option MoveBits) → (p : IsPrefixOf xs acc) → slice_get p.0 0 ≡ o
    → IsPrefixOf (xs ++ one_move o) acc
one-more xs acc None p e = (p.0, ap (λ l. l ++ p.0) (append-nil xs) ∙ p.1)
one-more xs acc (Some m) p e = go p.0 e p.1
  where
    go : (rest : List MoveBits) → slice_get rest 0 ≡ Some m → xs ++ rest ≡ acc → IsPrefixOf (xs ++ m ∷ []) acc
    go [] e all = absurd cc
    go (x ∷ rest) e all =
        let same : x ≡ m = cc in
        (rest, append_assoc xs (m ∷ []) rest ∙ ap (λ y. xs ++ y ∷ rest) (sym same) ∙ all)

longer-by : (xs : List MoveBits) (o : Option MoveBits)
    → length (xs ++ one_move o) ≡ length xs + (if is_some o then 1 else 0)
longer-by xs None = omega (arith, ap length (append-nil xs))
longer-by xs (Some m) = omega (arith, length-append xs (m ∷ []))

module _ (head : Head) (c : ℕ) where
  abbrev terms : Terms
  terms = client_terms head c

  abbrev Left : List MoveBits → List OwnItem → Type 0
  Left xs items = AreTaken xs terms (kept terms items).course

  stays : (xs : List MoveBits) (old new : Course) → Leaves terms old new → AreTaken xs terms old → AreTaken xs terms new
  stays xs old new l h = record {
    front = longer xs (accepted_in terms old.steps) (accepted_in terms new.steps) h.front l.accepted;
    count = h.count ∙ sym l.taken;
  }

  -- an item that takes no move, in the list of whichever client
  adds-none : (xs : List MoveBits) (own : ℕ → List OwnItem) (item : OwnItem) (d : ℕ)
      → Leaves terms (kept terms (own c)).course (follows terms item (kept terms (own c))).course → Left xs (own c)
      → Left xs (put own d (item ∷ own d) c)
  adds-none xs own item d l h =
      put_own (λ old new. Left xs old → Left xs new) own item c d (stays xs _ _ l) (λ old. old) h

  tick-takes : (past : List BodyLine) (xs : List MoveBits) → Left xs ((after head past).own c)
      → Left (xs ++ one_move (move_of head (after head past) c)) ((after head (script.Tick ∷ past)).own c)
  tick-takes past xs h =
      let p = after head past in
      let k = kept_by head p c in
      let writes = own_writes (next p.world (moves_of head p)) (shown (p.scans c)) in
      let rest : drop k.course.taken (accepted_in terms k.course.steps) ≡ h.front.0 =
      ap (λ n. drop n (accepted_in terms k.course.steps)) (sym h.count) ∙ ap (λ l. drop (length xs) l) (sym h.front.1)
      ∙ drop-append_seam xs h.front.0 in
      let o = move_of head p c in
      subst (λ (course : Course). AreTaken (xs ++ one_move o) terms (record { steps = course.steps; taken = course.taken + taken_from head p c }))
      (sym (wrote_course terms writes k)) (record {
        front = one-more xs (accepted_in terms k.course.steps) o h.front (ap (λ l. slice_get l 0) (sym rest));
        count = longer-by xs o ∙ ap (λ n. n + taken_from head p c) h.count;
      })

  line-takes : (line : BodyLine) (past : List BodyLine) → Left (applied head c past) ((after head past).own c)
      → Left (applied head c (line ∷ past)) ((after head (line ∷ past)).own c)
  line-takes script.Tick past h = tick-takes past (applied head c past) h
  line-takes (script.Scan d) past h =
      let p = after head past in
      let scans = visible_list p.world d ∷ p.scans d in
      adds-none (applied head c past) p.own (scan_item p.world d scans) d
      (scan-leaves terms (hides scans) (nears scans) (map (own_show p.world d) (shows scans)) (kept_by head p c)) h
  line-takes script.World past h = h
  line-takes line past h =
      let p = after head past in
      adds-none (applied head c past) p.own (Line line) _ (line-leaves terms line (kept_by head p c)) h

  pub taken : (past : List BodyLine) → Left (applied head c past) ((after head past).own c)
  taken [] = record { front = (accepted_in terms [], refl); count = refl }
  taken (line ∷ past) = line-takes line past (taken past)

pub applied_accepted : AppliedAreAccepted
applied_accepted head c past = (taken head c past).front

pub applied_in_order : OwnListsHold → AppliedInOrder
applied_in_order own s c n h l honest =
    let t = client_terms s.head c in
    longer (applied s.head c (first n s)) (accepted_in t (journal_of s c n)) (sampled_in t (journal_of s c n))
    (applied_accepted s.head c (first n s)) (moves_in_order own s c n h l honest)
