-- What is kept of an own list, item by item, is what is found by looking back over it.
use Rattle.std.proofs.Common.{◌≡◌, ◌≢◌, ℕ, ℤ, zero, suc, ◌+◌, ◌^◌, ◌<◌, ◌==◌, ◌&&◌, ◌||◌, Bool, true, false, not, cond, if◌then◌else◌, List, [], ◌∷◌, ◌++◌, map, length, Option, Some, None, refl, sym, ap, subst, ◌∙◌, arith, inl, inr}
use Rattle.std.specs.Prelude.{max, slice_get, slice_set, bit_or}
use Rattle.std.specs.Int.{bit_at}
use Rattle.std.specs.Option.{option_or}
use Rattle.std.specs.List.{AllByRecursion, list_any}
use Rattle.std.proofs.lemmas.Bool.{eqb-true, cases_eq, eq-eqb}
use Rattle.std.proofs.lemmas.Bool.Decides.{nat_tests}
use Rattle.std.proofs.lemmas.List.{length-map}
use Rattle.std.proofs.lemmas.Nat.Bits.{bit_at_or, bit_at-lt, bit_at-pow_same, bit_at-pow_other, bit_at-zero}
use Rattle.std.proofs.lemmas.Option.{slice_get_within}
use Rattle.tn_types.specs.BitWords.{has_bit}
use Rattle.notify_window.specs.declared.SendState.{SendState}
use Rattle.notify_window.specs.declared.SendState.TheVariants.{Held, Worn, Room}
use Rattle.pair_core.specs.stream_manager.Limits.{Terms}
use Rattle.pair_core.specs.stream_manager.Server.{server_state}
use Rattle.pair_core.specs.History.{PairStep, history}
use Rattle.match_script.specs.declared.types.BodyLine.{BodyLine}
use Rattle.match_script.specs.declared.types.BodyLine.TheVariants as script
use Rattle.client_scope.specs.declared.period.Near.{Near as NearPeriod}
use Rattle.own_lists.specs.pair_steps.Steps.{shows_in}
use Rattle.own_lists.specs.declared.showing.Showing.{Showing}
use Rattle.own_lists.specs.Own.{OwnShow, OwnWrite, OwnItem, Line, Scan, Tick}
use Rattle.own_lists.specs.Course.{onto, near_step, show_step, hide_step, scan_steps, with_steps}
use Rattle.own_lists.specs.Kept.{Kept, left, after_line, with_course, begins, all_begin, wrote, wrote_all, follows, kept, journal}
use Rattle.own_lists.specs.Conditions.{AreOwn, IsOwnWrite}
use Rattle.own_lists.proofs.Meeting.{scan_journal}
use Rattle.own_lists.proofs.KeptValues.{IsKept, own_fields, is_kept, wrote_course}
use Rattle.match_laws.proofs.ValuesHad.{values-many}
use Rattle.report_laws.specs.Looking.{begun_in, is_write_to, begins_with, last_write, first_value, newest_value, is_room, written_since, LooksBack}

-- ---- how many periods began

shows-onto : (shows : List Showing) (steps : List PairStep) → shows_in (onto (map show_step shows) steps) ≡ shows_in steps + length shows
shows-onto [] steps = omega arith
shows-onto (s ∷ shows) steps = omega (arith, shows-onto shows (show_step s ∷ steps))

nears-onto : (nears : List NearPeriod) (shows : List Showing) (steps : List PairStep)
    → shows_in (onto (map near_step nears ++ map show_step shows) steps) ≡ shows_in steps + length shows
nears-onto [] shows steps = shows-onto shows steps
nears-onto (p ∷ nears) shows steps = nears-onto nears shows (near_step p ∷ steps)

scan-onto : (hides : List ℕ) (nears : List NearPeriod) (shows : List Showing) (steps : List PairStep)
    → shows_in (onto (scan_steps hides nears shows) steps) ≡ shows_in steps + length shows
scan-onto [] nears shows steps = nears-onto nears shows steps
scan-onto (n ∷ hides) nears shows steps = scan-onto hides nears shows (hide_step n ∷ steps)

module _ (t : Terms) where
  line-shows : (line : BodyLine) (k : Kept) → shows_in (after_line t line k).course.steps ≡ shows_in k.course.steps
  line-shows script.Tick k = refl
  line-shows (script.Scan c) k = refl
  line-shows (script.Show c) k = refl
  line-shows script.World k = refl
  line-shows line k = refl

  item-shows : (item : OwnItem) (k : Kept) (before : ℕ) → shows_in k.course.steps ≡ before → (items : List OwnItem) → begun_in items ≡ before
      → shows_in (follows t item k).course.steps ≡ begun_in (item ∷ items)
  item-shows (Line line) k before e items f = line-shows line k ∙ e ∙ sym f
  item-shows (Scan hides nears shows) k before e items f =
      ap shows_in (scan_journal hides nears shows k) ∙ scan-onto hides nears (map (λ s. s.how) shows) k.course.steps
      ∙ ap (λ m. shows_in k.course.steps + m) (length-map shows (λ (s : OwnShow). s.how)) ∙ ap (λ m. m + length shows) (e ∙ sym f)
  item-shows (Tick writes taken) k before e items f = ap (λ c. shows_in c.steps) (wrote_course t writes k) ∙ e ∙ sym f

  begun : (items : List OwnItem) → shows_in (journal t items) ≡ begun_in items
  begun [] = refl
  begun (item ∷ items) = item-shows item (kept t items) (begun_in items) (begun items) items refl

-- ---- the bits

no-bit : (f : ℕ) → has_bit 0 f ≡ false
no-bit f = ap (λ b. b == 1) (bit_at-zero f)

one-bit : (g f : ℕ) → has_bit (2 ^ g) f ≡ (f == g)
one-bit g f = elim (cases_eq f g) [
  | inl same ↦ ap (has_bit (2 ^ g)) same ∙ ap (λ b. b == 1) (bit_at-pow_same g) ∙ sym (eq-eqb f g same)
  | inr apart ↦ ap (λ b. b == 1) (bit_at-pow_other g f apart) ∙ sym (unequal f g apart)
]
  where
    unequal : (a b : ℕ) → a ≢ b → (a == b) ≡ false
    unequal a b apart = grind (arith, nat_tests)

one-of : (x y : ℕ) → x < 2 → y < 2 → (max x y == 1) ≡ ((x == 1) || (y == 1))
one-of zero zero a b = refl
one-of zero (suc zero) a b = refl
one-of (suc zero) zero a b = refl
one-of (suc zero) (suc zero) a b = refl
one-of (suc (suc x)) y a b = absurd (omega arith)
one-of x (suc (suc y)) a b = absurd (omega arith)

either-bit : (a b f : ℕ) → has_bit (bit_or a b) f ≡ (has_bit a f || has_bit b f)
either-bit a b f = ap (λ x. x == 1) (bit_at_or a b f) ∙ one-of (bit_at a f) (bit_at b f) (bit_at-lt a f) (bit_at-lt b f)

or-swap : (a b : Bool) → (a || b) ≡ (b || a)
or-swap true true = refl
or-swap true false = refl
or-swap false true = refl
or-swap false false = refl

or-three : (a b c : Bool) → (b || (a || c)) ≡ ((a || b) || c)
or-three true true c = refl
or-three true false c = refl
or-three false b c = refl

-- ---- what was written

module _ (n f : ℕ) where
  wrote-bit : (w : OwnWrite) (k : Kept) → has_bit ((wrote w k).written n) f ≡ (is_write_to n f w || has_bit (k.written n) f)
  wrote-bit w k = go (n == w.n) refl
    where
      go : (b : Bool) → (n == w.n) ≡ b
          → has_bit (cond b (bit_or (k.written w.n) (2 ^ w.field)) (k.written n)) f ≡ ((b && (f == w.field)) || has_bit (k.written n) f)
      go false e = refl
      go true e =
          let same : w.n ≡ n = sym (eqb-true n w.n e) in
          either-bit (k.written w.n) (2 ^ w.field) f ∙ or-swap (has_bit (k.written w.n) f) (has_bit (2 ^ w.field) f)
          ∙ (λ j. one-bit w.field f j || has_bit (k.written (same j)) f)

  wrote-bits : (writes : List OwnWrite) (k : Kept)
      → has_bit ((wrote_all writes k).written n) f ≡ (list_any (is_write_to n f) writes || has_bit (k.written n) f)
  wrote-bits [] k = refl
  wrote-bits (w ∷ writes) k =
      wrote-bits writes (wrote w k) ∙ ap (λ b. list_any (is_write_to n f) writes || b) (wrote-bit w k)
      ∙ or-three (is_write_to n f w) (list_any (is_write_to n f) writes) (has_bit (k.written n) f)

  -- a period that begins has no bit
  begins-bit : (s : OwnShow) (k : Kept)
      → has_bit ((begins s k).written n) f ≡ (not (n == shows_in k.course.steps) && has_bit (k.written n) f)
  begins-bit s k = go (n == shows_in k.course.steps)
    where
      go : (b : Bool) → has_bit (cond b 0 (k.written n)) f ≡ (not b && has_bit (k.written n) f)
      go true = no-bit f
      go false = refl

  and-nots : (a b c : Bool) → (not b && (not a && c)) ≡ (not (a || b) && c)
  and-nots true true c = refl
  and-nots true false c = refl
  and-nots false b c = refl

  begin-bits : (shows : List OwnShow) (k : Kept) (m : ℕ) → shows_in k.course.steps ≡ m
      → has_bit ((all_begin shows k).written n) f ≡ (not (begins_with m shows n) && has_bit (k.written n) f)
  begin-bits [] k m e = refl
  begin-bits (s ∷ shows) k m e =
      begin-bits shows (begins s k) (m + 1) (ap (λ i. i + 1) e)
      ∙ ap (λ b. not (begins_with (m + 1) shows n) && b)
      (begins-bit s k ∙ ap (λ i. not (n == i) && has_bit (k.written n) f) e)
      ∙ and-nots (n == m) (begins_with (m + 1) shows n) (has_bit (k.written n) f)

  left-bit : (state : SendState) (written : ℕ → ℕ) → has_bit (left state written n) f ≡ (not (is_room state) && has_bit (written n) f)
  left-bit Room written = no-bit f
  left-bit Held written = refl
  left-bit Worn written = refl

module _ (t : Terms) (n f : ℕ) where
  line-written : (line : BodyLine) (items : List OwnItem) → has_bit ((kept t items).written n) f ≡ written_since t items n f
      → has_bit ((after_line t line (kept t items)).written n) f ≡ written_since t (Line line ∷ items) n f
  line-written (script.Pack c) items e =
      left-bit n f (server_state t.config (history t (journal t items)).server) (kept t items).written
      ∙ ap (λ b. not (is_room (server_state t.config (history t (journal t items)).server)) && b) e
  line-written line items e = e

  -- the steps of hides and levels, and no shows
  no-shows : (hides : List ℕ) (nears : List NearPeriod) (steps : List PairStep)
      → shows_in (onto (scan_steps hides nears []) steps) ≡ shows_in steps
  no-shows hides nears steps = scan-onto hides nears [] steps ∙ omega arith

  pub written : (items : List OwnItem) → has_bit ((kept t items).written n) f ≡ written_since t items n f
  written [] = no-bit f
  written (Line line ∷ items) = line-written line items (written items)
  written (Scan hides nears shows ∷ items) =
      let k = kept t items in
      begin-bits n f shows (with_course (with_steps (scan_steps hides nears []) k.course) k) (begun_in items)
      (no-shows hides nears k.course.steps ∙ begun t items)
      ∙ ap (λ b. not (begins_with (begun_in items) shows n) && b) (written items)
  written (Tick writes taken ∷ items) =
      wrote-bits n f writes (kept t items) ∙ ap (λ b. list_any (is_write_to n f) writes || b) (written items)

-- ---- the newest values

set-same : (xs : List ℤ) (i : ℕ) (v : ℤ) → i < length xs → slice_get (slice_set xs i v) i ≡ Some v
set-same [] i v lt = absurd (omega arith)
set-same (x ∷ xs) zero v lt = refl
set-same (x ∷ xs) (suc i) v lt = set-same xs i v (omega (arith, lt))

set-other : (xs : List ℤ) (i f : ℕ) (v : ℤ) → f ≢ i → slice_get (slice_set xs i v) f ≡ slice_get xs f
set-other [] i f v apart = refl
set-other (x ∷ xs) zero zero v apart = absurd (apart refl)
set-other (x ∷ xs) zero (suc f) v apart = refl
set-other (x ∷ xs) (suc i) zero v apart = refl
set-other (x ∷ xs) (suc i) (suc f) v apart = set-other xs i f v (λ e. apart (ap suc e))

apart-from : (f i : ℕ) → (f == i) ≡ false → f ≢ i
apart-from f i e same = let never : true ≡ false = sym (eq-eqb f i same) ∙ e in absurd cc

set-long : (xs : List ℤ) (i : ℕ) (v : ℤ) → length (slice_set xs i v) ≡ length xs
set-long [] i v = refl
set-long (x ∷ xs) zero v = refl
set-long (x ∷ xs) (suc i) v = ap suc (set-long xs i v)

or-else : {X : Type 0} (a b c : Option X) → option_or a (option_or b c) ≡ option_or (option_or a b) c
or-else None b c = refl
or-else (Some x) b c = refl

-- the write is of a field that the period has
abbrev Lands : Kept → OwnWrite → Type 0
Lands k w = w.field < length (k.values w.n)

lands-on : (w : OwnWrite) (k : Kept) (writes : List OwnWrite) → AllByRecursion (Lands k) writes → AllByRecursion (Lands (wrote w k)) writes
lands-on w k [] h = tt
lands-on w k (x ∷ writes) h = (go (x.n == w.n) refl, lands-on w k writes h.1)
  where
    go : (b : Bool) → (x.n == w.n) ≡ b → x.field < length (cond b (slice_set (k.values w.n) w.field w.value) (k.values x.n))
    go false e = h.0
    go true e =
        let same : x.n ≡ w.n = eqb-true x.n w.n e in
        subst (λ m. x.field < m) (ap (λ i. length (k.values i)) same ∙ sym (set-long (k.values w.n) w.field w.value)) h.0

module _ (n f : ℕ) where
  wrote-value : (w : OwnWrite) (k : Kept) → Lands k w
      → slice_get ((wrote w k).values n) f ≡ option_or (if is_write_to n f w then Some w.value else None) (slice_get (k.values n) f)
  wrote-value w k lands = go (n == w.n) refl (f == w.field) refl
    where
      go : (b : Bool) → (n == w.n) ≡ b → (a : Bool) → (f == w.field) ≡ a
          → slice_get (cond b (slice_set (k.values w.n) w.field w.value) (k.values n)) f
          ≡ option_or (if b && a then Some w.value else None) (slice_get (k.values n) f)
      go false e a d = refl
      go true e true d = ap (slice_get (slice_set (k.values w.n) w.field w.value)) (eqb-true f w.field d) ∙ set-same (k.values w.n) w.field w.value lands
      go true e false d =
          set-other (k.values w.n) w.field f w.value (apart-from f w.field d) ∙ ap (λ i. slice_get (k.values i) f) (sym (eqb-true n w.n e))

  wrote-values : (writes : List OwnWrite) (k : Kept) → AllByRecursion (Lands k) writes
      → slice_get ((wrote_all writes k).values n) f ≡ option_or (last_write writes n f) (slice_get (k.values n) f)
  wrote-values [] k lands = refl
  wrote-values (w ∷ writes) k lands =
      wrote-values writes (wrote w k) (lands-on w k writes lands.1)
      ∙ ap (option_or (last_write writes n f)) (wrote-value w k lands.0)
      ∙ or-else (last_write writes n f) (if is_write_to n f w then Some w.value else None) (slice_get (k.values n) f)

  -- no period that begins later has this number
  too-early : (shows : List OwnShow) (m : ℕ) → n < m → begins_with m shows n ≡ false
  too-early [] m lt = refl
  too-early (s ∷ shows) m lt =
      ap (λ b. b || begins_with (m + 1) shows n) (below n m lt) ∙ too-early shows (m + 1) (omega (arith, lt))
    where
      below : (a b : ℕ) → a < b → (a == b) ≡ false
      below a b lt = grind (arith, nat_tests)

  begin-values : (shows : List OwnShow) (k : Kept) (m : ℕ) → shows_in k.course.steps ≡ m
      → slice_get ((all_begin shows k).values n) f
      ≡ (if begins_with m shows n then first_value m shows n f else slice_get (k.values n) f)
  begin-values [] k m e = refl
  begin-values (s ∷ shows) k m e =
      begin-values shows (begins s k) (m + 1) (ap (λ i. i + 1) e)
      ∙ ap (λ i. if begins_with (m + 1) shows n then first_value (m + 1) shows n f else slice_get (cond (n == i) s.values (k.values n)) f) e
      ∙ go (n == m) refl (begins_with (m + 1) shows n) refl
    where
      go : (a : Bool) → (n == m) ≡ a → (b : Bool) → begins_with (m + 1) shows n ≡ b
          → (if b then first_value (m + 1) shows n f else slice_get (cond a s.values (k.values n)) f)
          ≡ (if a || b then (if a then slice_get s.values f else first_value (m + 1) shows n f) else slice_get (k.values n) f)
      go false e true d = refl
      go false e false d = refl
      go true e false d = refl
      go true e true d =
          let same : n ≡ m = eqb-true n m e in
          absurd (let never : true ≡ false = sym d ∙ too-early shows (m + 1) (omega (arith, same)) in cc)

module _ (t : Terms) (n f : ℕ) where
  line-values : (line : BodyLine) (k : Kept) → (after_line t line k).values n ≡ k.values n
  line-values script.Tick k = refl
  line-values (script.Scan c) k = refl
  line-values (script.Show c) k = refl
  line-values script.World k = refl
  line-values line k = refl

  lands : (k : Kept) → IsKept t k → (writes : List OwnWrite) → AllByRecursion (IsOwnWrite t k.course.steps) writes
      → AllByRecursion (Lands k) writes
  lands k h [] own = tt
  lands k h (w ∷ writes) own =
      let many = values-many (own_fields t k.course.steps w.n) (k.values w.n) (h.periods w.n own.0.shown own.0.up).values in
      let within = slice_get_within (own_fields t k.course.steps w.n) w.field own.0.spec own.0.field in
      (omega (arith, within, many), lands k h writes own.1)

  pub newest : (items : List OwnItem) → AreOwn t items → slice_get ((kept t items).values n) f ≡ newest_value items n f
  newest [] own = refl
  newest (Line line ∷ items) own = ap (λ vs. slice_get vs f) (line-values line (kept t items)) ∙ newest items own.1
  newest (Scan hides nears shows ∷ items) own =
      let k = kept t items in
      begin-values n f shows (with_course (with_steps (scan_steps hides nears []) k.course) k) (begun_in items)
      (no-shows t n f hides nears k.course.steps ∙ begun t items)
      ∙ ap (λ o. if begins_with (begun_in items) shows n then first_value (begun_in items) shows n f else o) (newest items own.1)
  newest (Tick writes taken ∷ items) own =
      let k = kept t items in
      wrote-values n f writes k (lands k (is_kept t items own.1) writes own.0.of_periods)
      ∙ ap (option_or (last_write writes n f)) (newest items own.1)

pub looks_back : LooksBack
looks_back = record { written = λ t items n f. written t n f items; newest = λ t items own n f. newest t n f items own }
