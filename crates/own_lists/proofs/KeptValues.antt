-- What an own list leaves of each of its periods that are up: a value for each of its fields, in its range, and bits of its fields
-- alone. And no more moves were taken than were accepted.
use Rattle.std.proofs.Common.{◌≡◌, ℕ, zero, suc, ◌+◌, ◌-◌, ◌^◌, ◌<◌, ◌≤◌, ◌==◌, Bool, true, false, cond, List, [], ◌∷◌, ◌++◌, length, take, drop, nat_le, Option, Some, None, Result, Ok, Err, if◌then◌else◌, refl, sym, subst, arith, length-append}
use Rattle.std.specs.Prelude.{ℤ, ◌≤ℤ◌, slice_get, slice_set, bit_or, map}
use Rattle.std.specs.Result.{is_ok}
use Rattle.std.specs.List.{AllByRecursion}
use Rattle.std.proofs.Math.Nat.{pow-suc}
use Rattle.std.proofs.Math.Pow.{pow-lt}
use Rattle.std.proofs.lemmas.Bool.{or_parts, eqb-true}
use Rattle.std.proofs.lemmas.Bool.Decides.{nat_tests}
use Rattle.std.proofs.lemmas.List.{length-drop}
use Rattle.std.proofs.lemmas.Nat.{or_lt}
use Rattle.std.proofs.lemmas.Option.{slice_get_within}
use Rattle.tn_types.specs.declared.choices.Class.{Class}
use Rattle.tn_types.specs.declared.choices.Class.TheVariants.{Guaranteed, Loose}
use Rattle.tn_types.specs.declared.choices.Drain.{Drain}
use Rattle.tn_types.specs.declared.moves.MoveBits.{MoveBits}
use Rattle.quantised_fields.specs.declared.field.FieldSpec.{FieldSpec}
use Rattle.notify_window.specs.declared.SendState.{SendState}
use Rattle.notify_window.specs.declared.SendState.TheVariants.{Held, Worn, Room}
use Rattle.move_manager.specs.Sending.{Packet}
use Rattle.move_manager.specs.Accepting.{new_count, accept}
use Rattle.wire_format.specs.declared.client.ClientPacket.{ClientPacket}
use Rattle.wire_format.specs.declared.client.ClientPacket.TheVariants as up
use Rattle.bit_stream.specs.WorldMoves.{bits_of}
use Rattle.match_script.specs.declared.types.BodyLine.{BodyLine}
use Rattle.match_script.specs.declared.types.BodyLine.TheVariants as script
use Rattle.client_scope.specs.declared.period.Near.{Near as NearPeriod}
use Rattle.ghost_model.specs.Scope.{Traits}
use Rattle.pair_steps.specs.ghost_masks.Plan.{fields_of}
use Rattle.pair_steps.specs.ghost_masks.Carried.{AreValues}
use Rattle.pair_steps.specs.stream_manager.declared.fault.ArriveFault.{ArriveFault}
use Rattle.pair_steps.specs.stream_manager.Limits.{Terms}
use Rattle.pair_steps.specs.stream_manager.Server as server
use Rattle.pair_steps.specs.stream_manager.Server.{ServerEvent, server_state, server_answer, took_at_server, posted_at_server, accepted_at}
use Rattle.pair_steps.specs.stream_manager.Client.{client_datagrams}
use Rattle.pair_steps.specs.conn_packing.Packs.{absorbing, values_of}
use Rattle.pair_steps.specs.pair_core.History.{PairStep, Show, Hide, Near, Post, ClientPost, Sample, Pack, ClientPack, Down, Up, Raw, history, server_posts, server_gets}
use Rattle.pair_steps.specs.pair_core.Answers.{accepted_in}
use Rattle.pair_steps.specs.Steps.{shows_in, is_hidden_in, traits_in}
use Rattle.own_lists.specs.Own.{OwnShow, OwnWrite, OwnItem, Line, Scan, Tick, StandsAlone}
use Rattle.own_lists.specs.Course.{Course, with_steps, room_in, near_step, scan_steps}
use Rattle.own_lists.specs.Kept.{Kept, packs, left, drains_of, reads_of, after_step, after_line, with_course, begins, all_begin, wrote, wrote_all, after_tick, follows, kept}
use Rattle.own_lists.specs.Conditions.{HasValues, IsOwnWrite, IsOwnTick, MayFollow, AreOwn}

-- ---- accepted moves stay accepted

module _ (t : Terms) where
  abbrev moves : List ServerEvent → ℕ
  moves s = length (accepted_at t.config s)

  accept-more : (life room : ℕ) (p : Packet) (acc : List MoveBits) → length acc ≤ length (accept life room p acc)
  accept-more life room p acc = go (nat_le p.first (length acc))
    where
      go : (b : Bool)
          → length acc ≤ length (cond b (acc ++ take (new_count life room (length acc) p) (drop (length acc - p.first) p.moves)) acc)
      go true = omega (arith, length-append acc (take (new_count life room (length acc) p) (drop (length acc - p.first) p.moves)))
      go false = omega arith

  took-more : (s : List ServerEvent) (room : ℕ) (a : Result ClientPacket ArriveFault) → moves s ≤ moves (took_at_server s room a)
  took-more s room (Ok (up.Ping head)) = omega arith
  took-more s room (Ok (up.Body p)) = accept-more t.config.life room (record { first = p.first; moves = p.moves }) (accepted_at t.config s)
  took-more s room (Err e) = omega arith

  gets-more : (s : List ServerEvent) (room : ℕ) (o : Option (List ℕ)) → moves s ≤ moves (server_gets t.config room o s)
  gets-more s room None = omega arith
  gets-more s room (Some bytes) = took-more s room (server_answer t.config s bytes)

  posts-more : (class : Class) (v : List ℕ) (s : List ServerEvent) → moves s ≤ moves (server_posts t.config class v s)
  posts-more Loose v s = omega arith
  posts-more Guaranteed v s = go (is_ok (posted_at_server t.config s))
    where
      go : (b : Bool) → moves s ≤ moves (if b then server.Posted Guaranteed v ∷ s else s)
      go true = omega arith
      go false = omega arith

  absorbed-moves : (drains : List Drain) (s : List ServerEvent) → moves (absorbing drains s) ≡ moves s
  absorbed-moves [] s = refl
  absorbed-moves (d ∷ drains) s = absorbed-moves drains (server.Scoped (server.Absorb d.n d.bits) ∷ s)

  packs-more : (s : List ServerEvent) (values : List ℤ) → moves s ≤ moves (server.packing t s values)
  packs-more s values = go (server_state t.config s)
    where
      go : (state : SendState) → moves s ≤ moves (server.packed_onto t s values state)
      go Held = omega arith
      go Worn = omega arith
      go Room = omega arith

  pub accepted_more : (step : PairStep) (steps : List PairStep) → length (accepted_in t steps) ≤ length (accepted_in t (step ∷ steps))
  accepted_more (Show kind block level control) steps = omega arith
  accepted_more (Hide n) steps = omega arith
  accepted_more (Near n level) steps = omega arith
  accepted_more (Post class v) steps = posts-more class v (history t steps).server
  accepted_more (ClientPost class v) steps = omega arith
  accepted_more (Sample m) steps = omega arith
  accepted_more (Pack drains reads) steps =
      let s = (history t steps).server in omega (arith, packs-more (absorbing drains s) (values_of reads), absorbed-moves drains s)
  accepted_more ClientPack steps = omega arith
  accepted_more (Down k) steps = omega arith
  accepted_more (Up k room) steps =
      let h = history t steps in gets-more h.server room (slice_get (client_datagrams t.config h.client) k)
  accepted_more (Raw bytes room) steps = gets-more (history t steps).server room (Some bytes)

-- ---- what holds of a period that is up

-- its fields
abbrev pub own_fields : Terms → List PairStep → ℕ → List FieldSpec
own_fields t steps n = fields_of t.kinds (traits_in steps n).kind

pub record AreFit (t : Terms) (steps : List PairStep) (n : ℕ) (vs : List ℤ) (bits : ℕ) : Type 0 where
  pub values : AreValues (own_fields t steps n) vs
  pub written : bits < 2 ^ length (own_fields t steps n)

pub record IsKept (t : Terms) (k : Kept) : Type 0 where
  pub periods : (n : ℕ) → n < shows_in k.course.steps → is_hidden_in k.course.steps n ≡ false
      → AreFit t k.course.steps n (k.values n) (k.written n)
  pub taken : k.course.taken ≤ length (accepted_in t k.course.steps)

-- ---- steps that begin no period

abbrev pub BeginsNone : PairStep → Type 0
BeginsNone (Show kind block level control) = ⊥
BeginsNone step = Unit {0}

some-power : (m : ℕ) → 0 < 2 ^ m
some-power zero = omega arith
some-power (suc m) = omega (arith, some-power m, pow-suc 2 m)

pub near-kind : (b : Bool) (l : ℕ) (x : Traits) → (cond b (record x { level = l }) x).kind ≡ x.kind
near-kind true l x = refl
near-kind false l x = refl

set-values : (fs : List FieldSpec) (vs : List ℤ) (f : ℕ) (spec : FieldSpec) (v : ℤ) → slice_get fs f ≡ Some spec → spec.lo ≤ℤ v
    → v ≤ℤ spec.hi
    → AreValues fs vs → AreValues fs (slice_set vs f v)
set-values [] vs f spec v is low high h = absurd cc
set-values (g ∷ fs) [] f spec v is low high h = absurd h
set-values (g ∷ fs) (w ∷ vs) zero spec v is low high h =
    let same : spec ≡ g = cc in (subst (λ (x : FieldSpec). x.lo ≤ℤ v) same low, subst (λ (x : FieldSpec). v ≤ℤ x.hi) same high, h.2)
set-values (g ∷ fs) (w ∷ vs) (suc f) spec v is low high h = (h.0, h.1, set-values fs vs f spec v is low high h.2)

module _ (t : Terms) where
  kept-step : (step : PairStep) (k : Kept) → BeginsNone step → IsKept t k → IsKept t (after_step step k)
  kept-step (Show kind block level control) k none h = absurd none
  kept-step (Hide m) k none h = record {
    periods = λ n shown up. let p = h.periods n shown (or_parts (m == n) (is_hidden_in k.course.steps n) up).1 in record { values = p.values; written = p.written };
    taken = h.taken;
  }
  kept-step (Near m l) k none h = record {
    periods = λ n shown up.
        let p = h.periods n shown up in
        let q = subst (λ x. AreValues (fields_of t.kinds x) (k.values n) × (k.written n < 2 ^ length (fields_of t.kinds x)))
        (sym (near-kind (m == n) l (traits_in k.course.steps n))) (p.values, p.written) in
        record { values = q.0; written = q.1 };
    taken = h.taken;
  }
  kept-step step k none h = record {
    periods = λ n shown up. let p = h.periods n shown up in record { values = p.values; written = p.written };
    taken = (let more = accepted_more t step k.course.steps in omega (arith, more, h.taken));
  }

  kept-steps : (more : List PairStep) (k : Kept) → AllByRecursion BeginsNone more → IsKept t k
      → IsKept t (with_course (with_steps more k.course) k)
  kept-steps [] k none h = h
  kept-steps (step ∷ more) k none h = kept-steps more (after_step step k) none.1 (kept-step step k none.0 h)

  -- ---- packs

  kept-packs : (k : Kept) → IsKept t k → IsKept t (packs t k)
  kept-packs k h = record {
    periods = λ n shown up. go n (h.periods n shown up) (server_state t.config (history t k.course.steps).server);
    taken = (let more = accepted_more t (Pack (drains_of t k) (reads_of t k)) k.course.steps in omega (arith, more, h.taken));
  }
    where
      go : (n : ℕ) → AreFit t k.course.steps n (k.values n) (k.written n) → (state : SendState)
          → AreFit t (Pack (drains_of t k) (reads_of t k) ∷ k.course.steps) n (k.values n) (left state k.written n)
      go n p Room = record { values = p.values; written = some-power (length (own_fields t k.course.steps n)) }
      go n p Held = record { values = p.values; written = p.written }
      go n p Worn = record { values = p.values; written = p.written }

  kept-line : (line : BodyLine) (k : Kept) → StandsAlone line → IsKept t k → IsKept t (after_line t line k)
  kept-line script.Tick k alone h = absurd alone
  kept-line (script.Scan c) k alone h = absurd alone
  kept-line (script.Post c class payload) k alone h = kept-step (Post class payload) k tt h
  kept-line (script.ClientPost c class payload) k alone h = kept-step (ClientPost class payload) k tt h
  kept-line (script.Pack c) k alone h = kept-packs k h
  kept-line (script.ClientPack c) k alone h = kept-step ClientPack k tt h
  kept-line (script.Down c place) k alone h = kept-step (Down place) k tt h
  kept-line (script.Up c place) k alone h = kept-step (Up place (room_in t k.course)) k tt h
  kept-line (script.Raw c bytes) k alone h = kept-step (Raw bytes (room_in t k.course)) k tt h
  kept-line (script.Move c m) k alone h = kept-step (Sample (bits_of m)) k tt h
  kept-line (script.Show c) k alone h = h
  kept-line script.World k alone h = absurd alone

  -- ---- scans

  nears-begin-none : (nears : List NearPeriod) → AllByRecursion BeginsNone (map near_step nears ++ [])
  nears-begin-none [] = tt
  nears-begin-none (p ∷ nears) = (tt, nears-begin-none nears)

  hides-begin-none : (hides : List ℕ) (nears : List NearPeriod) → AllByRecursion BeginsNone (scan_steps hides nears [])
  hides-begin-none [] nears = nears-begin-none nears
  hides-begin-none (n ∷ hides) nears = (tt, hides-begin-none hides nears)

  kept-begins : (s : OwnShow) (k : Kept) → HasValues t s → IsKept t k → IsKept t (begins s k)
  kept-begins s k has h = record {
    periods = λ n shown up. let p = go n shown up (n == shows_in k.course.steps) refl in record { values = p.0; written = p.1 };
    taken = h.taken;
  }
    where
      go : (n : ℕ) → n < shows_in k.course.steps + 1 → is_hidden_in k.course.steps n ≡ false → (b : Bool)
          → (n == shows_in k.course.steps) ≡ b
          → AreValues (fields_of t.kinds (cond b (record { kind = s.how.kind; block = s.how.block; level = s.how.level; control = s.how.control }) (traits_in k.course.steps n)).kind) (cond b s.values (k.values n))
          × (cond b 0 (k.written n) < 2 ^ length (fields_of t.kinds (cond b (record { kind = s.how.kind; block = s.how.block; level = s.how.level; control = s.how.control }) (traits_in k.course.steps n)).kind))
      go n shown up true e = (has, some-power (length (fields_of t.kinds s.how.kind)))
      go n shown up false e = let p = h.periods n (grind (arith, nat_tests)) up in (p.values, p.written)

  kept-shows : (shows : List OwnShow) (k : Kept) → AllByRecursion (HasValues t) shows → IsKept t k → IsKept t (all_begin shows k)
  kept-shows [] k has h = h
  kept-shows (s ∷ shows) k has h = kept-shows shows (begins s k) has.1 (kept-begins s k has.0 h)

  -- ---- ticks

  kept-wrote : (w : OwnWrite) (k : Kept) → IsOwnWrite t k.course.steps w → IsKept t k → IsKept t (wrote w k)
  kept-wrote w k own h = record { periods = λ n shown up. go n (h.periods n shown up) (n == w.n) refl; taken = h.taken }
    where
      go : (n : ℕ) → AreFit t k.course.steps n (k.values n) (k.written n) → (b : Bool) → (n == w.n) ≡ b
          → AreFit t k.course.steps n (cond b (slice_set (k.values w.n) w.field w.value) (k.values n)) (cond b (bit_or (k.written w.n) (2 ^ w.field)) (k.written n))
      go n p false e = p
      go n p true e =
          let p = h.periods w.n own.shown own.up in
          let fs : List FieldSpec = own_fields t k.course.steps w.n in
          subst (λ m. AreFit t k.course.steps m (slice_set (k.values w.n) w.field w.value) (bit_or (k.written w.n) (2 ^ w.field))) (sym (eqb-true n w.n e)) (record {
            values = set-values fs (k.values w.n) w.field own.spec w.value own.field own.least own.most p.values;
            written = or_lt (length fs) (k.written w.n) (2 ^ w.field) p.written (pow-lt (slice_get_within fs w.field own.spec own.field));
          })

  kept-writes : (writes : List OwnWrite) (k : Kept) → AllByRecursion (IsOwnWrite t k.course.steps) writes → IsKept t k
      → IsKept t (wrote_all writes k)
  kept-writes [] k own h = h
  kept-writes (w ∷ writes) k own h = kept-writes writes (wrote w k) own.1 (kept-wrote w k own.0 h)

  -- writes are no steps
  pub wrote_course : (writes : List OwnWrite) (k : Kept) → (wrote_all writes k).course ≡ k.course
  wrote_course [] k = refl
  wrote_course (w ∷ writes) k = wrote_course writes (wrote w k)

  kept-tick : (writes : List OwnWrite) (taken : ℕ) (k : Kept) → IsOwnTick t k writes taken → IsKept t k
      → IsKept t (after_tick writes taken k)
  kept-tick writes taken k own h = record {
    periods = (kept-writes writes k own.of_periods h).periods;
    taken = subst (λ (c : Course). c.taken + taken ≤ length (accepted_in t c.steps)) (sym (wrote_course writes k))
        (omega (arith, h.taken, own.waits, length-drop k.course.taken (accepted_in t k.course.steps)));
  }

  -- ---- own lists

  pub kept_item : (item : OwnItem) (k : Kept) → MayFollow t k item → IsKept t k → IsKept t (follows t item k)
  kept_item (Line line) k may h = kept-line line k may h
  kept_item (Scan hides nears shows) k may h =
      kept-shows shows (with_course (with_steps (scan_steps hides nears []) k.course) k) may.values (kept-steps (scan_steps hides nears []) k (hides-begin-none hides nears) h)
  kept_item (Tick writes taken) k may h = kept-tick writes taken k may h

  pub is_kept : (items : List OwnItem) → AreOwn t items → IsKept t (kept t items)
  is_kept [] own = record { periods = λ n shown up. absurd (omega arith); taken = omega arith }
  is_kept (item ∷ items) own = kept_item item (kept t items) own.0 (is_kept items own.1)
