-- The masks of a client's shown periods tell what its own list says was written and not drained.
use Rattle.std.proofs.Common.{◌≡◌, ◌≢◌, ℕ, ◌<◌, ◌==◌, Bool, true, false, List, [], ◌∷◌, ◌++◌, map, if◌then◌else◌, cond, refl, sym, ap, ◌∙◌, subst, arith}
use Rattle.std.specs.Prelude.{bit_or, ◌^◌, Option, Some, None, option_map}
use Rattle.std.specs.List.{All, AllByRecursion, filter_map, flat_map, list_any}
use Rattle.std.proofs.lemmas.Bool.Decides.{nat_tests}
use Rattle.tn_types.specs.declared.choices.Drain.{Drain}
use Rattle.world_sim.specs.declared.rows.Write.{Write}
use Rattle.world_sim.specs.Worlds.{Worlds}
use Rattle.client_scope.specs.declared.period.ShownPeriod.{ShownPeriod}
use Rattle.dirty_lanes.specs.Words.{Words, mask_at}
use Rattle.match_laws.specs.own_lists.Own.{OwnWrite, OwnShow}
use Rattle.match_laws.specs.own_lists.Kept.{Kept, wrote, wrote_all, all_begin, begins}
use Rattle.match_laws.specs.own_lists.Past.{write_of, own_writes}
use Rattle.match_laws.specs.own_lists.pair_steps.Steps.{shows_in}
use Rattle.world_scope.specs.declared.viewer.Seen.{Seen}
use Rattle.client_scope.specs.Marks.{goes_on, with_level, begun}
use Rattle.match_laws.proofs.Below.own_lists.ScanFacts.{IsNone, AreDifferent, numbers, all_on}
use Rattle.match_engine.specs.Stands.{IsMarked}
use Rattle.match_engine.specs.Serving.{marked, raised_by}

-- one drain for each period
abbrev drain_by : (ℕ → ℕ) → ℕ → Drain
drain_by written n = record { n = n; bits = written n }

pub marked_is : (lanes : Words) (c : ℕ) (k : Kept) (ps : List ShownPeriod) → AllByRecursion (IsMarked lanes c k) ps → marked lanes c ps ≡ map (drain_by k.written) (numbers ps)
marked_is lanes c k [] h = refl
marked_is lanes c k (p ∷ ps) h = let rest = marked_is lanes c k ps h.1 in let first = h.0 in rw (first, rest) refl

-- ---- ticks

wrote_on : (xs ys : List OwnWrite) (k : Kept) → wrote_all (xs ++ ys) k ≡ wrote_all ys (wrote_all xs k)
wrote_on [] ys k = refl
wrote_on (x ∷ xs) ys k = wrote_on xs ys (wrote x k)

-- the writes of one period change what was written of it alone
module _ (w : Worlds) where
  one_period : (p : ShownPeriod) (writes : List Write) (k : Kept) (n : ℕ)
      → (wrote_all (filter_map (write_of p) writes) k).written n ≡ (if n == p.n then raised_by writes p.object (k.written n) else k.written n)
  one_period p [] k n = by (n == p.n)
    where
      by : (b : Bool) → k.written n ≡ (if b then k.written n else k.written n)
      by true = refl
      by false = refl
  one_period p (x ∷ writes) k n = step (λ j. one_period p writes j n) (x.object == p.object)
    where
      one : OwnWrite
      one = record { n = p.n; field = x.field; value = x.value }

      same : (e : Bool) → (n == p.n) ≡ e
          → (if e then raised_by writes p.object (cond e (bit_or (k.written p.n) (2 ^ x.field)) (k.written n)) else cond e (bit_or (k.written p.n) (2 ^ x.field)) (k.written n))
          ≡ (if e then raised_by writes p.object (bit_or (k.written n) (2 ^ x.field)) else k.written n)
      same true is = let at : p.n ≡ n = grind (arith, nat_tests) in ap (λ (m : ℕ). raised_by writes p.object (bit_or (k.written m) (2 ^ x.field))) at
      same false is = refl

      step : ((j : Kept) → (wrote_all (filter_map (write_of p) writes) j).written n ≡ (if n == p.n then raised_by writes p.object (j.written n) else j.written n))
          → (b : Bool) → (wrote_all (Rattle.std.specs.List.cons_option (if b then Some one else None) (filter_map (write_of p) writes)) k).written n
          ≡ (if n == p.n then raised_by writes p.object (if b then bit_or (k.written n) (2 ^ x.field) else k.written n) else k.written n)
      step rest true = rest (wrote one k) ∙ same (n == p.n) refl
      step rest false = rest k

  there : (p : ShownPeriod) (writes : List Write) (k : Kept) → (wrote_all (filter_map (write_of p) writes) k).written p.n ≡ raised_by writes p.object (k.written p.n)
  there p writes k = let yes : (p.n == p.n) ≡ true = grind (arith, nat_tests) in one_period p writes k p.n ∙ rw yes refl

  elsewhere : (p : ShownPeriod) (writes : List Write) (k : Kept) (n : ℕ) → n ≢ p.n → (wrote_all (filter_map (write_of p) writes) k).written n ≡ k.written n
  elsewhere p writes k n apart = let no : (n == p.n) ≡ false = grind (arith, nat_tests) in one_period p writes k n ∙ rw no refl

  others_stay : (ps : List ShownPeriod) (k : Kept) (n : ℕ) → IsNone n (numbers ps) → (wrote_all (own_writes w ps) k).written n ≡ k.written n
  others_stay [] k n none = refl
  others_stay (p ∷ ps) k n none =
      let first = filter_map (write_of p) w.writes in
      ap (λ (j : Kept). j.written n) (wrote_on first (own_writes w ps) k) ∙ others_stay ps (wrote_all first k) n none.1
      ∙ elsewhere p w.writes k n (λ e. none.0 (sym e))

  abbrev IsRaised : Kept → Kept → ShownPeriod → Type 0
  IsRaised after k p = after.written p.n ≡ raised_by w.writes p.object (k.written p.n)

  pub all_raised : (ps : List ShownPeriod) (k : Kept) → AreDifferent (numbers ps) → AllByRecursion (IsRaised (wrote_all (own_writes w ps) k) k) ps
  all_raised [] k apart = tt
  all_raised (p ∷ ps) k apart =
      let first = filter_map (write_of p) w.writes in
      let all = wrote_on first (own_writes w ps) k in
      let rest = all_raised ps (wrote_all first k) apart.1 in (
        ap (λ (j : Kept). j.written p.n) all ∙ others_stay ps (wrote_all first k) p.n apart.0 ∙ there p w.writes k,
        behind ps all rest apart.0,
      )
    where
      behind : (qs : List ShownPeriod) → wrote_all (own_writes w (p ∷ ps)) k ≡ wrote_all (own_writes w ps) (wrote_all (filter_map (write_of p) w.writes) k)
          → AllByRecursion (IsRaised (wrote_all (own_writes w ps) (wrote_all (filter_map (write_of p) w.writes) k)) (wrote_all (filter_map (write_of p) w.writes) k)) qs
          → IsNone p.n (numbers qs) → AllByRecursion (IsRaised (wrote_all (own_writes w (p ∷ ps)) k) k) qs
      behind [] all h none = tt
      behind (q ∷ qs) all h none = (
        ap (λ (j : Kept). j.written q.n) all ∙ h.0 ∙ ap (raised_by w.writes q.object) (elsewhere p w.writes k q.n none.0),
        behind qs all h.1 none.1,
      )

  -- so the masks that every write raises tell it still
  pub marks_after_tick : (old new : Words) (c : ℕ) (k : Kept) (ps : List ShownPeriod) → ((o : ℕ) → mask_at new c o ≡ raised_by w.writes o (mask_at old c o))
      → AreDifferent (numbers ps) → AllByRecursion (IsMarked old c k) ps → AllByRecursion (IsMarked new c (wrote_all (own_writes w ps) k)) ps
  marks_after_tick old new c k ps raised apart marks = go ps (all_raised ps k apart) marks
    where
      go : (qs : List ShownPeriod) → AllByRecursion (IsRaised (wrote_all (own_writes w ps) k) k) qs → AllByRecursion (IsMarked old c k) qs → AllByRecursion (IsMarked new c (wrote_all (own_writes w ps) k)) qs
      go [] h m = tt
      go (q ∷ qs) h m = (raised q.object ∙ ap (raised_by w.writes q.object) m.0 ∙ sym h.0, go qs h.1 m.1)

-- ---- scans

begun_before : (ss : List OwnShow) (k : Kept) (n : ℕ) → n < shows_in k.course.steps → (all_begin ss k).written n ≡ k.written n
begun_before [] k n lt = refl
begun_before (s ∷ ss) k n lt =
    let no : (n == shows_in k.course.steps) ≡ false = grind (arith, nat_tests) in
    begun_before ss (begins s k) n (omega (arith, lt)) ∙ ap (λ (b : Bool). cond b 0 (k.written n)) no

begun_first : (s : OwnShow) (ss : List OwnShow) (k : Kept) → (all_begin (s ∷ ss) k).written (shows_in k.course.steps) ≡ 0
begun_first s ss k =
    let yes : (shows_in k.course.steps == shows_in k.course.steps) ≡ true = grind (arith, nat_tests) in
    begun_before ss (begins s k) (shows_in k.course.steps) (omega arith) ∙ ap (λ (b : Bool). cond b 0 (k.written (shows_in k.course.steps))) yes

module _ (new : Words) (c : ℕ) (f : Seen → OwnShow) where
  -- periods that begin with these sights, whose masks are cleared
  begun_marked : (ss : List Seen) (k : Kept) → AllByRecursion (λ (s : Seen). mask_at new c s.object ≡ 0) ss
      → AllByRecursion (IsMarked new c (all_begin (map f ss) k)) (begun (shows_in k.course.steps) ss)
  begun_marked [] k clear = tt
  begun_marked (s ∷ ss) k clear = (clear.0 ∙ sym (begun_first (f s) (map f ss) k), begun_marked ss (begins (f s) k) clear.1)

  -- periods that go on
  kept_marked : (old : Words) (now : ℕ → Option ℕ) (ps : List ShownPeriod) (k j : Kept) → ((n : ℕ) → n < shows_in k.course.steps → j.written n ≡ k.written n)
      → AllByRecursion (λ (p : ShownPeriod). (p.n < shows_in k.course.steps) × (mask_at new c p.object ≡ mask_at old c p.object)) ps → AllByRecursion (IsMarked old c k) ps
      → AllByRecursion (IsMarked new c j) (filter_map (goes_on now) ps)
  kept_marked old now [] k j same stay marks = tt
  kept_marked old now (p ∷ ps) k j same stay marks = by (kept_marked old now ps k j same stay.1 marks.1) (now p.object)
    where
      by : AllByRecursion (IsMarked new c j) (filter_map (goes_on now) ps) → (o : Option ℕ) → AllByRecursion (IsMarked new c j) (Rattle.std.specs.List.cons_option (option_map (with_level p) o) (filter_map (goes_on now) ps))
      by rest None = rest
      by rest (Some level) = ((stay.0).1 ∙ marks.0 ∙ sym (same p.n (stay.0).0), rest)

  pub marks_after_scan : (old : Words) (now : ℕ → Option ℕ) (ps : List ShownPeriod) (ss : List Seen) (k j : Kept)
      → j.written ≡ k.written → shows_in j.course.steps ≡ shows_in k.course.steps
      → AllByRecursion (λ (p : ShownPeriod). (p.n < shows_in k.course.steps) × (mask_at new c p.object ≡ mask_at old c p.object)) ps
      → AllByRecursion (λ (s : Seen). mask_at new c s.object ≡ 0) ss → AllByRecursion (IsMarked old c k) ps
      → AllByRecursion (IsMarked new c (all_begin (map f ss) j)) (filter_map (goes_on now) ps ++ begun (shows_in k.course.steps) ss)
  marks_after_scan old now ps ss k j same_bits same_count stay clear marks =
      let kept = kept_marked old now ps k (all_begin (map f ss) j) (λ n lt. begun_before (map f ss) j n (omega (arith, lt, same_count)) ∙ ap (λ (g : ℕ → ℕ). g n) same_bits) stay marks in
      let fresh = subst (λ (n : ℕ). AllByRecursion (IsMarked new c (all_begin (map f ss) j)) (begun n ss)) same_count (begun_marked ss j clear) in
      all_on (IsMarked new c (all_begin (map f ss) j)) (filter_map (goes_on now) ps) (begun (shows_in k.course.steps) ss) kept fresh
