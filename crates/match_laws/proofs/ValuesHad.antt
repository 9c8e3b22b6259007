-- Over the lines of a match: what was read, the object had.
use Rattle.std.proofs.Common.{◌≡◌, ℕ, ℤ, suc, ◌==◌, ◌<◌, Bool, true, false, cond, List, [], ◌∷◌, length, refl, sym, ap, ◌∙◌, subst, arith, inl, inr}
use Rattle.std.specs.Prelude.{◌⊎◌, pos, map, slice_get}
use Rattle.std.specs.Option.{option_and_then}
use Rattle.std.proofs.lemmas.Bool.Decides.{nat_tests}
use Rattle.std.proofs.lemmas.List.Elements.{All-from_recursion, recursion_from_All}
use Rattle.std.proofs.lemmas.Option.{slice_get-get_or}
use Rattle.quantised_fields.specs.declared.field.FieldSpec.{FieldSpec}
use Rattle.ghost_masks.specs.Carried.{AreValues}
use Rattle.stream_manager.specs.Limits.{Terms}
use Rattle.match_script.specs.declared.types.BodyLine.{BodyLine}
use Rattle.match_script.specs.declared.types.BodyLine.TheVariants as script
use Rattle.match_script.specs.declared.types.Head.{Head}
use Rattle.match_script.specs.Ranges.{LineFits}
use Rattle.client_seat.specs.pair_core.History.{PairStep, Show, Near}
use Rattle.pair_copies.specs.Reads.{HasRead, WasRead}
use Rattle.client_seat.specs.own_lists.pair_steps.Steps.{shows_in, traits_in}
use Rattle.client_seat.specs.own_lists.Own.{OwnItem, Line, Scan, Tick}
use Rattle.client_seat.specs.own_lists.Course.{onto, scan_steps}
use Rattle.client_seat.specs.own_lists.Kept.{Kept, reads_of, after_line, follows, kept, journal}
use Rattle.client_seat.specs.own_lists.Past.{client_terms, kept_by, after}
use Rattle.client_seat.specs.own_lists.Conditions.{AreOwn}
use Rattle.client_seat.specs.own_lists.Agreement.{Agrees, AreLines, OwnListsHold}
use Rattle.client_seat.proofs.Below.own_lists.Meeting.{are_met, scan_journal}
use Rattle.client_seat.proofs.Below.own_lists.KeptValues.{own_fields, is_kept, wrote_course, near-kind}
use Rattle.client_seat.proofs.Below.own_lists.Standing.{IsShownIn}
use Rattle.match_laws.specs.Values.{ClientMoment, Spot, HasValue, HadValue}
use Rattle.match_laws.proofs.Grown.{grows}
use Rattle.match_laws.proofs.ValuesNewest.{newest_of}
use Rattle.match_laws.proofs.ValuesRead.{up_at, pack_reads, item_read}

abbrev pub moment : Head → List BodyLine → ℕ → ClientMoment
moment head past c = record { head = head; past = past; client = c }

abbrev pub spot : ℕ → ℕ → ℕ → Spot
spot n kind f = record { period = n; kind = kind; field = f }

-- ---- a period keeps its kind

-- what was shown stays so, with its kind
abbrev Continues : List PairStep → List PairStep → Type 0
Continues old new = (n : ℕ) → n < shows_in old → (n < shows_in new) × ((traits_in new n).kind ≡ (traits_in old n).kind)

continues-then : (a b c : List PairStep) → Continues a b → Continues b c → Continues a c
continues-then a b c x y n lt =
    let p = x n lt in
    let q = y n p.0 in
    (q.0, q.1 ∙ p.1)

step-continues : (step : PairStep) (steps : List PairStep) → Continues steps (step ∷ steps)
step-continues (Show kind block level control) steps n lt = (omega (arith, lt), go (n == shows_in steps) refl)
  where
    go : (b : Bool) → (n == shows_in steps) ≡ b
        → (cond b (record { kind = kind; block = block; level = level; control = control }) (traits_in steps n)).kind ≡
        (traits_in steps n).kind
    go true e = absurd (let same : n ≡ shows_in steps = grind (arith, nat_tests) in omega (arith, same, lt))
    go false e = refl
step-continues (Near m l) steps n lt = (lt, near-kind (m == n) l (traits_in steps n))
step-continues step steps n lt = (lt, refl)

onto-continues : (more steps : List PairStep) → Continues steps (onto more steps)
onto-continues [] steps n lt = (lt, refl)
onto-continues (step ∷ more) steps n lt =
    continues-then steps (step ∷ steps) (onto more (step ∷ steps)) (step-continues step steps) (onto-continues more (step ∷ steps)) n lt

module _ (t : Terms) where
  line-continues : (line : BodyLine) (k : Kept) → Continues k.course.steps (after_line t line k).course.steps
  line-continues script.Tick k n lt = (lt, refl)
  line-continues (script.Scan c) k n lt = (lt, refl)
  line-continues (script.Show c) k n lt = (lt, refl)
  line-continues script.World k n lt = (lt, refl)
  line-continues line k n lt = (lt, refl)

  item-continues : (item : OwnItem) (k : Kept) → Continues k.course.steps (follows t item k).course.steps
  item-continues (Line line) k = line-continues line k
  item-continues (Scan hides nears shows) k =
      let steps = scan_steps hides nears (map (λ s. s.how) shows) in
      subst (Continues k.course.steps) (sym (scan_journal hides nears shows k)) (onto-continues steps k.course.steps)
  item-continues (Tick writes taken) k = subst (λ c. Continues k.course.steps c.steps) (sym (wrote_course t writes k))
      (λ n lt. (lt, refl))

-- ---- the object has the newest value

pub values-many : (fs : List FieldSpec) (vs : List ℤ) → AreValues fs vs → length vs ≡ length fs
values-many [] [] h = refl
values-many [] (v ∷ vs) h = absurd h
values-many (g ∷ fs) [] h = absurd h
values-many (g ∷ fs) (v ∷ vs) h = ap suc (values-many fs vs h.2)

module _ (own : OwnListsHold) (head : Head) (c : ℕ) (below : c < head.clients) where
  abbrev t : Terms
  t = client_terms head c

  abbrev k : List BodyLine → Kept
  k past = kept_by head (after head past) c

  abbrev steps : List BodyLine → List PairStep
  steps past = (k past).course.steps

  module _ (past : List BodyLine) (lines : AreLines head past) where
    pub listed : AreOwn t ((after head past).own c)
    listed = (own head past c lines below).0

    pub agreed : Agrees (after head past).world c ((after head past).scans c) (k past)
    agreed = (own head past c lines below).1

    pub has_newest : (n f : ℕ) → IsShownIn (steps past) n → f < length (own_fields t (steps past) n)
        → HasValue (moment head past c) (spot n (traits_in (steps past) n).kind f) (newest_of (k past).values n f)
    has_newest n f up field =
        let at = up_at (after head past).world c ((after head past).scans c) (k past) agreed n up in
        let fit = ((is_kept t ((after head past).own c) listed).periods n up.0 up.1).values in
        let many = values-many (own_fields t (steps past) n) ((k past).values n) fit in
        record {
          object = at.object;
          begun = at.begun;
          kind_is = at.kind;
          value_is =
              ap (option_and_then (λ (values : List ℤ). slice_get values f)) at.values
              ∙ slice_get-get_or ((k past).values n) f (pos 0) (omega (arith, field, many));
        }

  -- ---- what was read, it had

  pub record HadRead (past : List BodyLine) (n f : ℕ) (v : ℤ) : Type 0 where
    pub shown : n < shows_in (steps past)
    pub had : HadValue (moment head past c) (spot n (traits_in (steps past) n).kind f) v

  fewer : (line : BodyLine) (past : List BodyLine) → AreLines head (line ∷ past) → AreLines head past
  fewer line past lines = record {
    fits = lines.fits;
    lines = All-from_recursion (LineFits head.clients) past (recursion_from_All (LineFits head.clients) (line ∷ past) lines.lines).1;
    few = omega (arith, lines.few);
  }

  later-had : (line : BodyLine) (past : List BodyLine) (n f : ℕ) (v : ℤ) → Continues (steps past) (steps (line ∷ past))
      → HadRead past n f v → HadRead (line ∷ past) n f v
  later-had line past n f v continues h =
      let p = continues n h.shown in
      record {
        shown = p.0;
        had = subst (λ kind. HadValue (moment head (line ∷ past) c) (spot n kind f) v) (sym p.1) (record {
          later = line ∷ h.had.later;
          earlier = h.had.earlier;
          whole = ap (λ (l : List BodyLine). line ∷ l) h.had.whole;
          there = h.had.there;
        });
      }

  -- a list that a line leaves as it is, or lengthens by an item
  record IsNext (n f : ℕ) (v : ℤ) (old new : List OwnItem) : Type 0 where
    pub continues : Continues (journal t old) (journal t new)
    pub read : WasRead (journal t new) n f v → HasRead (reads_of t (kept t old)) n f v ⊎ WasRead (journal t old) n f v

  next : (line : BodyLine) (past : List BodyLine) (n f : ℕ) (v : ℤ)
      → IsNext n f v ((after head past).own c) ((after head (line ∷ past)).own c)
  next line past n f v =
      grows (IsNext n f v) (λ items. record { continues = λ m lt. (lt, refl); read = λ h. inr h }) head (after head past) c line
      (λ item made. record {
        continues = item-continues t item (k past);
        read = item_read t n f v item (k past);
      })

  now-had : (past : List BodyLine) → AreLines head past → (n f : ℕ) (v : ℤ) → HasRead (reads_of t (k past)) n f v → HadRead past n f v
  now-had past lines n f v h =
      let items = (after head past).own c in
      let r = pack_reads t (k past) refl (are_met t refl items (listed past lines))
      (are_met t refl (Line (script.Pack c) ∷ items) (tt, listed past lines)) n f v h in
      record {
        shown = r.up.0;
        had = record {
          later = [];
          earlier = past;
          whole = refl;
          there = subst (λ x. HasValue (moment head past c) (spot n (traits_in (steps past) n).kind f) x) (sym r.newest)
              (has_newest past lines n f r.up r.field);
        };
      }

  one-more : (past : List BodyLine) → AreLines head past → ((n f : ℕ) (v : ℤ) → WasRead (steps past) n f v → HadRead past n f v)
      → (n f : ℕ) (v : ℤ) → HasRead (reads_of t (k past)) n f v ⊎ WasRead (steps past) n f v → HadRead past n f v
  one-more past before had n f v (inl now) = now-had past before n f v now
  one-more past before had n f v (inr earlier) = had n f v earlier

  pub was_had : (past : List BodyLine) → AreLines head past → (n f : ℕ) (v : ℤ) → WasRead (steps past) n f v → HadRead past n f v
  was_had [] lines n f v h = absurd h
  was_had (line ∷ past) lines n f v h =
      let before = fewer line past lines in
      let one = next line past n f v in
      later-had line past n f v one.continues (one-more past before (was_had past before) n f v (one.read h))
