-- Steps whose drains and reads lie one behind another: each by its place, and one more.
use Rattle.std.proofs.Common.{◌≡◌, ℕ, zero, suc, ◌+◌, ◌-◌, ◌<◌, ◌≤◌, Bool, true, false, cond, ◌&&◌, List, [], ◌∷◌, ◌++◌, length, take, drop, get_or, Some, refl, sym, ap, ◌∙◌, subst, arith, length-drop}
use Rattle.std.specs.Prelude.{slice_get}
use Rattle.std.proofs.lemmas.List.{take-append-le, drop-append-le}
use Rattle.std.proofs.Math.Seq.{take-length, drop-append_seam}
use Rattle.tn_types.specs.declared.choices.Drain.{Drain}
use Rattle.tn_types.specs.declared.choices.Read.{Read}
use Rattle.pair_core.specs.declared.step.PairStep.{PairStep as GivenStep}
use Rattle.pair_core.specs.declared.step.PairStep.TheVariants as given
use Rattle.pair_core.specs.Calls.{step_of}
use Rattle.kept_pair.specs.declared.entry.Entry.{Entry}
use Rattle.kept_pair.specs.StepLists.{kept_of, is_pack, drains_in, reads_in, drains_at, reads_at, part, cut, drains_start, reads_start, Rise}

-- ---- what a step of a kind drains and reads

pub drains-kept : (s : GivenStep) (ds : List Drain) (rs : List Read) → drains_in (Some (kept_of s ds rs)) ≡ cond (is_pack s) ds []
drains-kept given.Pack ds rs = refl
drains-kept other ds rs = refl

pub reads-kept : (s : GivenStep) (ds : List Drain) (rs : List Read) → reads_in (Some (kept_of s ds rs)) ≡ cond (is_pack s) rs []
reads-kept given.Pack ds rs = refl
reads-kept other ds rs = refl

pub kept-plain : (s : GivenStep) → kept_of s [] [] ≡ step_of s
kept-plain given.Pack = refl
kept-plain other = refl

kept-again : (s : GivenStep) (ds : List Drain) (rs : List Read) → kept_of s ds rs ≡ kept_of s (drains_in (Some (kept_of s ds rs))) (reads_in (Some (kept_of s ds rs)))
kept-again given.Pack ds rs = refl
kept-again other ds rs = refl

-- ---- each by its place

pub found : {A : Type 0} (xs : List A) (i : ℕ) (x : A) → i < length xs → x ≡ get_or xs i x → slice_get xs i ≡ Some x
found [] i x lt is = absurd (omega arith)
found (y ∷ xs) zero x lt is = ap Some (sym is)
found (y ∷ xs) (suc i) x lt is = found xs i x (omega arith) is

pub cut-length : (d r : ℕ) (es : List Entry) (xs : List Drain) (us : List Read) → length (cut d r es xs us) ≡ length es
cut-length d r [] xs us = refl
cut-length d r (e ∷ es) xs us = ap suc (cut-length e.drains_end e.reads_end es xs us)

pub drains-later : (d : ℕ) (es : List Entry) (i : ℕ) (e : Entry) → slice_get es i ≡ Some e → drains_start d es (suc i) ≡ e.drains_end
drains-later d [] i e is = absurd cc
drains-later d (x ∷ es) zero e is = cc
drains-later d (x ∷ es) (suc i) e is = drains-later x.drains_end es i e is

pub reads-later : (r : ℕ) (es : List Entry) (i : ℕ) (e : Entry) → slice_get es i ≡ Some e → reads_start r es (suc i) ≡ e.reads_end
reads-later r [] i e is = absurd cc
reads-later r (x ∷ es) zero e is = cc
reads-later r (x ∷ es) (suc i) e is = reads-later x.reads_end es i e is

pub cut-at : (d r : ℕ) (es : List Entry) (xs : List Drain) (us : List Read) (i : ℕ) (e : Entry) → slice_get es i ≡ Some e
    → slice_get (cut d r es xs us) i ≡ Some (kept_of e.step (part (drains_start d es i) e.drains_end xs) (part (reads_start r es i) e.reads_end us))
cut-at d r [] xs us i e is = absurd cc
cut-at d r (x ∷ es) xs us zero e is = let same : x ≡ e = cc in ap (λ (y : Entry). Some (kept_of y.step (part d y.drains_end xs) (part r y.reads_end us))) same
cut-at d r (x ∷ es) xs us (suc i) e is = cut-at x.drains_end x.reads_end es xs us i e is

pub kept-at : (es : List Entry) (xs : List Drain) (us : List Read) (i : ℕ) (e : Entry) → slice_get es i ≡ Some e
    → slice_get (cut 0 0 es xs us) i ≡ Some (kept_of e.step (drains_at (cut 0 0 es xs us) i) (reads_at (cut 0 0 es xs us) i))
kept-at es xs us i e is =
    let here = cut-at 0 0 es xs us i e is in
    let ds = part (drains_start 0 es i) e.drains_end xs in
    let rs = part (reads_start 0 es i) e.reads_end us in
    here ∙ ap Some (kept-again e.step (part (drains_start 0 es i) e.drains_end xs) (part (reads_start 0 es i) e.reads_end us)) ∙ (λ j. Some (kept_of e.step (drains_in (sym here j)) (reads_in (sym here j))))

pub drained-at : (es : List Entry) (xs : List Drain) (us : List Read) (i : ℕ) (e : Entry) → slice_get es i ≡ Some e
    → drains_at (cut 0 0 es xs us) i ≡ cond (is_pack e.step) (part (drains_start 0 es i) e.drains_end xs) []
drained-at es xs us i e is = ap drains_in (cut-at 0 0 es xs us i e is) ∙ drains-kept e.step (part (drains_start 0 es i) e.drains_end xs) (part (reads_start 0 es i) e.reads_end us)

pub read-at : (es : List Entry) (xs : List Drain) (us : List Read) (i : ℕ) (e : Entry) → slice_get es i ≡ Some e
    → reads_at (cut 0 0 es xs us) i ≡ cond (is_pack e.step) (part (reads_start 0 es i) e.reads_end us) []
read-at es xs us i e is = ap reads_in (cut-at 0 0 es xs us i e is) ∙ reads-kept e.step (part (drains_start 0 es i) e.drains_end xs) (part (reads_start 0 es i) e.reads_end us)

-- ---- ends rise

pub rise-most : (d r : ℕ) (es : List Entry) (m k : ℕ) → Rise d r es m k → (d ≤ m) × (r ≤ k)
rise-most d r [] m k h = (omega (arith, h.0), omega (arith, h.1))
rise-most d r (e ∷ es) m k h = let l = rise-most e.drains_end e.reads_end es m k h.2 in (omega (arith, l.0, h.0), omega (arith, l.1, h.1))

pub rise-at : (d r : ℕ) (es : List Entry) (m k : ℕ) (i : ℕ) (e : Entry) → Rise d r es m k → slice_get es i ≡ Some e
    → ((drains_start d es i ≤ e.drains_end) × (e.drains_end ≤ m)) × ((reads_start r es i ≤ e.reads_end) × (e.reads_end ≤ k))
rise-at d r [] m k i e h is = absurd cc
rise-at d r (x ∷ es) m k zero e h is =
    let same : x ≡ e = cc in
    let l = rise-most x.drains_end x.reads_end es m k h.2 in
    subst (λ (y : Entry). ((d ≤ y.drains_end) × (y.drains_end ≤ m)) × ((r ≤ y.reads_end) × (y.reads_end ≤ k))) same ((h.0, l.0), (h.1, l.1))
rise-at d r (x ∷ es) m k (suc i) e h is = rise-at x.drains_end x.reads_end es m k i e h.2 is

-- ---- one more

part-more : {A : Type 0} (a b : ℕ) (xs ys : List A) → a ≤ b → b ≤ length xs → part a b (xs ++ ys) ≡ part a b xs
part-more a b xs ys le lt = let h : a ≤ length xs = omega arith in let k : b - a ≤ length (drop a xs) = omega (arith, length-drop a xs) in rw drop-append-le (rw take-append-le refl)

part-last : {A : Type 0} (a b : ℕ) (xs ys : List A) → a ≡ length xs → b ≡ length xs + length ys → part a b (xs ++ ys) ≡ ys
part-last a b xs ys is end =
    let n : b - a ≡ length ys = omega (arith, is, end) in
    (λ j. take (n j) (drop (is j) (xs ++ ys))) ∙ ap (λ l. take (length ys) l) (drop-append_seam xs ys) ∙ take-length ys

pub rise-more : (d r : ℕ) (es : List Entry) (m k : ℕ) (e : Entry) → m ≤ e.drains_end → k ≤ e.reads_end → Rise d r es m k → Rise d r (es ++ e ∷ []) e.drains_end e.reads_end
rise-more d r [] m k e le lt h = (omega (arith, h.0), omega (arith, h.1), (refl, refl))
rise-more d r (x ∷ es) m k e le lt h = (h.0, h.1, rise-more x.drains_end x.reads_end es m k e le lt h.2)

pub cut-more : (d r : ℕ) (es : List Entry) (xs ys : List Drain) (us vs : List Read) (e : Entry) → e.drains_end ≡ length xs + length ys → e.reads_end ≡ length us + length vs → Rise d r es (length xs) (length us)
    → cut d r (es ++ e ∷ []) (xs ++ ys) (us ++ vs) ≡ cut d r es xs us ++ kept_of e.step ys vs ∷ []
cut-more d r [] xs ys us vs e is_d is_r h = λ j. kept_of e.step (part-last d e.drains_end xs ys h.0 is_d j) (part-last r e.reads_end us vs h.1 is_r j) ∷ []
cut-more d r (x ∷ es) xs ys us vs e is_d is_r h =
    let l = rise-most x.drains_end x.reads_end es (length xs) (length us) h.2 in
    λ j. kept_of x.step (part-more d x.drains_end xs ys h.0 l.0 j) (part-more r x.reads_end us vs h.1 l.1 j) ∷ cut-more x.drains_end x.reads_end es xs ys us vs e is_d is_r h.2 j

-- ---- room

pub all-three : (a b c : Bool) → a ≡ true → b ≡ true → c ≡ true → (a && (b && c)) ≡ true
all-three a b c p q r = (λ j. p j && (q j && r j))

pub and-left : (a b : Bool) → (a && b) ≡ true → a ≡ true
and-left true b e = refl
and-left false b e = e

pub and-right : (a b : Bool) → (a && b) ≡ true → b ≡ true
and-right true b e = e
and-right false b e = absurd cc

pub fourth : (a b c d e : Bool) → (a && (b && (c && (d && e)))) ≡ true → d ≡ true
fourth a b c d e h = and-left d e (and-right c (d && e) (and-right b (c && (d && e)) (and-right a (b && (c && (d && e))) h)))
