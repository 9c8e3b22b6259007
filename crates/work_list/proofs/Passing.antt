-- The slots that pass a test, by rising number: one more, one less, and the first from a slot on.
use Rattle.std.proofs.Common.{◌≡◌, ◌≢◌, ℕ, zero, suc, ◌<◌, ◌≤◌, ◌+◌, Bool, true, false, cond, [], ◌∷◌, Some, refl, ◌∙◌, ap, arith, eqb, inl, inr, nat_lt}
use Rattle.std.proofs.lemmas.Bool.Decides.{nat_tests, eqb_tells}
use Rattle.work_list.specs.Work.{has, IsUnique, without, with_in, next_of, first_of}
use Rattle.work_list.specs.Bits.{passing}

has_before : (p : ℕ → Bool) (k s t : ℕ) → t < s → has (passing p k s) t ≡ false
has_before p zero s t lt = refl
has_before p (suc k) s t lt = go (p s) (has_before p k (suc s) t (omega (arith, lt)))
  where
    go : (b : Bool) → has (passing p k (suc s)) t ≡ false → has (cond b (s ∷ passing p k (suc s)) (passing p k (suc s))) t ≡ false
    go true h = grind (arith, nat_tests)
    go false h = h

pub has_passing : (p : ℕ → Bool) (k s t : ℕ) → s ≤ t → t < s + k → has (passing p k s) t ≡ p t
has_passing p zero s t le lt = absurd (omega arith)
has_passing p (suc k) s t le lt =
    elim (eqb_tells s t) [
      | inl w ↦ rw (← w.1) (here (p s) refl)
      | inr w ↦ later (p s) w.0 (has_passing p k (suc s) t (omega (arith, le, w.1)) (omega (arith, lt)))
    ]
  where
    here : (b : Bool) → p s ≡ b → has (cond (p s) (s ∷ passing p k (suc s)) (passing p k (suc s))) s ≡ p s
    here true e = grind (arith, nat_tests)
    here false e = rw e (has_before p k (suc s) s (omega arith))

    later : (b : Bool) → eqb s t ≡ false → has (passing p k (suc s)) t ≡ p t → has (cond b (s ∷ passing p k (suc s)) (passing p k (suc s))) t ≡ p t
    later true e h = grind (arith, nat_tests)
    later false e h = h

pub has_beyond : (p : ℕ → Bool) (k s t : ℕ) → s + k ≤ t → has (passing p k s) t ≡ false
has_beyond p zero s t le = refl
has_beyond p (suc k) s t le = go (p s) (has_beyond p k (suc s) t (omega (arith, le)))
  where
    go : (b : Bool) → has (passing p k (suc s)) t ≡ false → has (cond b (s ∷ passing p k (suc s)) (passing p k (suc s))) t ≡ false
    go true h = grind (arith, nat_tests)
    go false h = h

pub unique_passing : (p : ℕ → Bool) (k s : ℕ) → IsUnique (passing p k s)
unique_passing p zero s = tt
unique_passing p (suc k) s = go (p s) (unique_passing p k (suc s))
  where
    go : (b : Bool) → IsUnique (passing p k (suc s)) → IsUnique (cond b (s ∷ passing p k (suc s)) (passing p k (suc s)))
    go true u = (has_before p k (suc s) s (omega arith), u)
    go false u = u

-- the same test from a slot on
pub same_passing : (p q : ℕ → Bool) (k s : ℕ) → ((u : ℕ) → s ≤ u → q u ≡ p u) → passing p k s ≡ passing q k s
same_passing p q zero s same = refl
same_passing p q (suc k) s same =
    let rest = same_passing p q k (suc s) (λ u l. same u (omega (arith, l))) in
    rw (same s (omega arith), rest) refl

with_before : (p : ℕ → Bool) (k s t : ℕ) → t < s → with_in t (passing p k s) ≡ t ∷ passing p k s
with_before p zero s t lt = refl
with_before p (suc k) s t lt = go (p s) (with_before p k (suc s) t (omega (arith, lt)))
  where
    go : (b : Bool) → with_in t (passing p k (suc s)) ≡ t ∷ passing p k (suc s) → with_in t (cond b (s ∷ passing p k (suc s)) (passing p k (suc s))) ≡ t ∷ cond b (s ∷ passing p k (suc s)) (passing p k (suc s))
    go true h = grind (arith, nat_tests)
    go false h = h

pub with_passing : (p q : ℕ → Bool) (t : ℕ) → q t ≡ true → ((u : ℕ) → u ≢ t → q u ≡ p u) → (k s : ℕ) → s ≤ t → t < s + k → with_in t (passing p k s) ≡ passing q k s
with_passing p q t one same zero s le lt = absurd (omega arith)
with_passing p q t one same (suc k) s le lt =
    elim (eqb_tells s t) [
      | inl w ↦ here (p s) w.1 (same_passing p q k (suc s) (λ u l. same u (λ e. absurd (omega (arith, l, e, w.1)))))
      | inr w ↦ later (p s) refl w.1 (with_passing p q t one same k (suc s) (omega (arith, le, w.1)) (omega (arith, lt)))
    ]
  where
    here : (b : Bool) → s ≡ t → passing p k (suc s) ≡ passing q k (suc s) → with_in t (cond b (s ∷ passing p k (suc s)) (passing p k (suc s))) ≡ cond (q s) (s ∷ passing q k (suc s)) (passing q k (suc s))
    here true e rest =
        let q_s : q s ≡ true = ap q e ∙ one in
        let head : eqb s t ≡ true = grind (arith, nat_tests) in
        rw (q_s, head, rest) refl
    here false e rest =
        let q_s : q s ≡ true = ap q e ∙ one in
        let before = with_before p k (suc s) t (omega (arith, e)) in
        rw (q_s, before, rest, e) refl

    later : (b : Bool) → p s ≡ b → s ≢ t → with_in t (passing p k (suc s)) ≡ passing q k (suc s) → with_in t (cond b (s ∷ passing p k (suc s)) (passing p k (suc s))) ≡ cond (q s) (s ∷ passing q k (suc s)) (passing q k (suc s))
    later true e ne rest =
        let q_s : q s ≡ true = same s ne ∙ e in
        let off : eqb s t ≡ false = grind (arith, nat_tests) in
        let not_less : nat_lt t s ≡ false = grind (arith, nat_tests) in
        rw (q_s, off, not_less, rest) refl
    later false e ne rest =
        let q_s : q s ≡ false = same s ne ∙ e in
        rw (q_s, rest) refl

pub without_passing : (p q : ℕ → Bool) (t : ℕ) → q t ≡ false → ((u : ℕ) → u ≢ t → q u ≡ p u) → (k s : ℕ) → without t (passing p k s) ≡ passing q k s
without_passing p q t none same zero s = refl
without_passing p q t none same (suc k) s =
    elim (eqb_tells s t) [
      | inl w ↦ here (p s) w.1 (without_passing p q t none same k (suc s))
      | inr w ↦ later (p s) refl w.1 (without_passing p q t none same k (suc s))
    ]
  where
    here : (b : Bool) → s ≡ t → without t (passing p k (suc s)) ≡ passing q k (suc s) → without t (cond b (s ∷ passing p k (suc s)) (passing p k (suc s))) ≡ cond (q s) (s ∷ passing q k (suc s)) (passing q k (suc s))
    here true e rest =
        let q_s : q s ≡ false = ap q e ∙ none in
        let head : eqb s t ≡ true = grind (arith, nat_tests) in
        rw (q_s, head, rest) refl
    here false e rest =
        let q_s : q s ≡ false = ap q e ∙ none in
        rw (q_s, rest) refl

    later : (b : Bool) → p s ≡ b → s ≢ t → without t (passing p k (suc s)) ≡ passing q k (suc s) → without t (cond b (s ∷ passing p k (suc s)) (passing p k (suc s))) ≡ cond (q s) (s ∷ passing q k (suc s)) (passing q k (suc s))
    later true e ne rest =
        let q_s : q s ≡ true = same s ne ∙ e in
        let off : eqb s t ≡ false = grind (arith, nat_tests) in
        rw (q_s, off, rest) refl
    later false e ne rest =
        let q_s : q s ≡ false = same s ne ∙ e in
        rw (q_s, rest) refl

-- what comes after a member
pub next_passing : (p : ℕ → Bool) (t : ℕ) → p t ≡ true → (k s j : ℕ) → s ≤ t → s + k ≡ suc t + j → next_of (passing p k s) (Some t) ≡ first_of (passing p j (suc t))
next_passing p t one zero s j le sum = absurd (omega arith)
next_passing p t one (suc k) s j le sum =
    elim (eqb_tells s t) [
      | inl w ↦ here w.1 (omega (arith, sum, w.1))
      | inr w ↦ later (p s) w.1 (next_passing p t one k (suc s) j (omega (arith, le, w.1)) (omega (arith, sum)))
    ]
  where
    here : s ≡ t → k ≡ j → next_of (cond (p s) (s ∷ passing p k (suc s)) (passing p k (suc s))) (Some t) ≡ first_of (passing p j (suc t))
    here e same =
        let p_s : p s ≡ true = ap p e ∙ one in
        let head : eqb s t ≡ true = grind (arith, nat_tests) in
        rw (p_s, head, ← same, ← e) refl

    later : (b : Bool) → s ≢ t → next_of (passing p k (suc s)) (Some t) ≡ first_of (passing p j (suc t)) → next_of (cond b (s ∷ passing p k (suc s)) (passing p k (suc s))) (Some t) ≡ first_of (passing p j (suc t))
    later true ne rest =
        let off : eqb s t ≡ false = grind (arith, nat_tests) in
        rw (off, rest) refl
    later false ne rest = rest

-- the first from a slot on
pub first_passing : (p : ℕ → Bool) (t : ℕ) → p t ≡ true → (k s : ℕ) → s ≤ t → t < s + k → ((u : ℕ) → s ≤ u → u < t → p u ≡ false) → first_of (passing p k s) ≡ Some t
first_passing p t one zero s le lt none = absurd (omega arith)
first_passing p t one (suc k) s le lt none =
    elim (eqb_tells s t) [
      | inl w ↦ let p_s : p s ≡ true = ap p w.1 ∙ one in rw p_s (ap Some w.1)
      | inr w ↦
          let p_s : p s ≡ false = none s (omega arith) (omega (arith, le, w.1)) in
          rw p_s (first_passing p t one k (suc s) (omega (arith, le, w.1)) (omega (arith, lt)) (λ u l m. none u (omega (arith, l)) m))
    ]

pub none_passing : (p : ℕ → Bool) (k s : ℕ) → ((u : ℕ) → s ≤ u → u < s + k → p u ≡ false) → passing p k s ≡ []
none_passing p zero s none = refl
none_passing p (suc k) s none = rw (none s (omega arith) (omega arith)) (none_passing p k (suc s) (λ u l m. none u (omega (arith, l)) (omega (arith, m))))

-- where none passes of the first ones, those of the others are all
pub skip_passing : (p : ℕ → Bool) (j k s : ℕ) → ((u : ℕ) → s ≤ u → u < s + j → p u ≡ false) → passing p (j + k) s ≡ passing p k (s + j)
skip_passing p zero k s none =
    let e : s + 0 ≡ s = omega arith in
    let f : 0 + k ≡ k = omega arith in
    rw (e, f) refl
skip_passing p (suc j) k s none =
    let e : s + suc j ≡ suc s + j = omega arith in
    let f : suc j + k ≡ suc (j + k) = omega arith in
    rw (f, none s (omega arith) (omega arith), e) (skip_passing p j k (suc s) (λ u l m. none u (omega (arith, l)) (omega (arith, m))))
