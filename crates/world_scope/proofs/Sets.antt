-- A set of numbers, as it grows by single numbers, by lists and by words.
use Rattle.std.proofs.Common.{◌≡◌, ℕ, zero, suc, ◌+◌, ◌*◌, ◌/◌, ◌%◌, ◌<◌, ◌≤◌, inl, inr, Bool, true, false, cond, nat_eq, ◌||◌, max, List, [], ◌∷◌, length, take, get_or, replicate, refl, sym, ap, ◌∙◌, arith, Option, Some, None}
use Rattle.std.specs.Prelude.{slice_get}
use Rattle.std.specs.Option.{option_map_or}
use Rattle.std.specs.Int.{bit_at}
use Rattle.std.specs.List.{list_any}
use Rattle.std.proofs.lemmas.Nat.Bits.{bit_at-zero}
use Rattle.std.proofs.lemmas.List.Folds.{list_any_more}
use Rattle.std.proofs.lemmas.Option.{slice_get_past}
use Rattle.std.proofs.lemmas.Bool.{cases_lt}
use Rattle.std.proofs.lemmas.Bool.Decides.{nat_tests, eqb_tells}
use Rattle.world_rules.specs.declared.object.Object.{Object}
use Rattle.world_cells.specs.Grid.{numbers}
use Rattle.world_cells.specs.Lines.{AreBits}
use Rattle.world_cells.specs.NumberSet.{bit_of}
use Rattle.world_scope.specs.Candidates.{AreThose, either}
use Rattle.world_scope.proofs.Numbers.{one}

abbrev pub passes : (Object → Bool) → List Object → ℕ → Bool
passes p os n = option_map_or p (slice_get os n) false

-- ---- a list more

-- a set with the numbers of a list more
abbrev pub HasMore : List ℕ → List ℕ → List ℕ → Type 0
HasMore found old now = (n : ℕ) → n < 1024 → bit_of now n ≡ cond (list_any (nat_eq n) found) 1 (bit_of old n)

one_of : (a b : Bool) (k : ℕ) → cond b 1 (cond a 1 k) ≡ cond (a || b) 1 k
one_of true true k = refl
one_of true false k = refl
one_of false b k = refl

pub one_found : (i : ℕ) (found old now new : List ℕ) → i < length found → ((n : ℕ) → n < 1024 → bit_of new n ≡ cond (nat_eq n (get_or found i 0)) 1 (bit_of now n)) → HasMore (take i found) old now → HasMore (take (i + 1) found) old new
one_found i found old now new l put before = λ n m.
    let x = get_or found i 0 in
    put n m
    ∙ ap (λ (b : ℕ). cond (nat_eq n x) 1 b) (before n m)
    ∙ one_of (list_any (nat_eq n) (take i found)) (nat_eq n x) (bit_of old n)
    ∙ ap (λ b. cond b 1 (bit_of old n)) (sym (list_any_more (nat_eq n) found i 0 l))

not_by : (n k : ℕ) (ns : List ℕ) (b : Bool) → n < k → list_any (nat_eq n) ns ≡ false → list_any (nat_eq n) (cond b (k ∷ ns) ns) ≡ false
not_by n k ns true l e = let t : nat_eq n k ≡ false = grind (arith, nat_tests) in rw t e
not_by n k ns false l e = e

not_among : (p : Object → Bool) (n k : ℕ) (os : List Object) → n < k → list_any (nat_eq n) (numbers p k os) ≡ false
not_among p n k [] l = refl
not_among p n k (o ∷ os) l = not_by n k (numbers p (suc k) os) (p o) l (not_among p n (suc k) os (omega (arith, l)))

first_among : (p : Object → Bool) (k : ℕ) (os : List Object) (b : Bool) → list_any (nat_eq k) (cond b (k ∷ numbers p (suc k) os) (numbers p (suc k) os)) ≡ b
first_among p k os true = let t : nat_eq k k ≡ true = grind (arith, nat_tests) in rw t refl
first_among p k os false = not_among p k (suc k) os (omega arith)

later_among : (n k : ℕ) (ns : List ℕ) (b : Bool) → k < n → list_any (nat_eq n) (cond b (k ∷ ns) ns) ≡ list_any (nat_eq n) ns
later_among n k ns true l = let t : nat_eq n k ≡ false = grind (arith, nat_tests) in rw t refl
later_among n k ns false l = refl

among_numbers : (p : Object → Bool) (k : ℕ) (os : List Object) (n m : ℕ) → m ≡ k + n → list_any (nat_eq m) (numbers p k os) ≡ passes p os n
among_numbers p k [] n m e = refl
among_numbers p k (o ∷ os) zero m e =
    let i : m ≡ k = omega (arith, e) in
    rw i (first_among p k os (p o))
among_numbers p k (o ∷ os) (suc n) m e =
    later_among m k (numbers p (suc k) os) (p o) (omega (arith, e)) ∙ among_numbers p (suc k) os n m (omega (arith, e))

-- ---- either of two tests

passes_by : (p q : Object → Bool) (x : Option Object) → option_map_or (either p q) x false ≡ (option_map_or p x false || option_map_or q x false)
passes_by p q None = refl
passes_by p q (Some o) = refl

greatest : (a b : Bool) → max (one a) (one b) ≡ one (a || b)
greatest true true = refl
greatest true false = refl
greatest false b = omega arith

pub joined : (p q : Object → Bool) (os : List Object) (n a b : ℕ) → a ≡ one (passes p os n) → b ≡ one (passes q os n) → max a b ≡ one (passes (either p q) os n)
joined p q os n a b e f =
    ap (λ (k : ℕ). max k b) e ∙ ap (λ (k : ℕ). max (one (passes p os n)) k) f
    ∙ greatest (passes p os n) (passes q os n) ∙ sym (ap one (passes_by p q (slice_get os n)))

pub all_found : (p q : Object → Bool) (os : List Object) (found old now : List ℕ) → HasMore found old now → AreThose old p os → found ≡ numbers q 0 os → AreThose now (either p q) os
all_found p q os found old now more those e = λ n l.
    let is : list_any (nat_eq n) found ≡ passes q os n = ap (list_any (nat_eq n)) e ∙ among_numbers q 0 os n n (omega arith) in
    more n l
    ∙ ap (λ (k : ℕ). cond (list_any (nat_eq n) found) 1 k) (those n l)
    ∙ ap (λ b. cond b 1 (one (passes p os n))) is
    ∙ one_of (passes p os n) (passes q os n) 0
    ∙ sym (ap one (passes_by p q (slice_get os n)))

same_by : (p q : Object → Bool) (x : Option Object) → ((o : Object) → x ≡ Some o → p o ≡ q o) → option_map_or p x false ≡ option_map_or q x false
same_by p q None h = refl
same_by p q (Some o) h = h o refl

-- a test that tells the same of each object
pub those_same : (words : List ℕ) (p q : Object → Bool) (os : List Object) → ((n : ℕ) (o : Object) → slice_get os n ≡ Some o → p o ≡ q o) → AreThose words p os → AreThose words q os
those_same words p q os h those = λ n l. those n l ∙ ap one (same_by p q (slice_get os n) (h n))

-- ---- word by word

-- the words before one have those of both tests, and the others are as they were
pub record AreWordsTo (w : ℕ) (q : Object → Bool) (os : List Object) (old now : List ℕ) : Type 0 where
  pub done : (p : Object → Bool) → AreThose old p os → (n : ℕ) → n < 64 * w → n < 1024 → bit_of now n ≡ one (passes (either p q) os n)
  pub left : (n : ℕ) → 64 * w ≤ n → bit_of now n ≡ bit_of old n

pub no_words : (q : Object → Bool) (os : List Object) (old : List ℕ) → AreWordsTo 0 q os old old
no_words q os old = record {
  done = λ p those n l m. absurd (omega (arith, l));
  left = λ n l. refl;
}

-- a set with some numbers more in one of its words
abbrev pub IsJoined : ℕ → ℕ → List ℕ → List ℕ → Type 0
IsJoined w found now new = (n : ℕ) → bit_of new n ≡ max (bit_of now n) (cond (nat_eq (n / 64) w) (bit_at found (n % 64)) 0)

joined_here : (w found n : ℕ) (now new : List ℕ) → n / 64 ≡ w → IsJoined w found now new → bit_of new n ≡ max (bit_of now n) (bit_at found (n % 64))
joined_here w found n now new e put =
    let t : nat_eq (n / 64) w ≡ true = grind (arith, nat_tests) in
    put n ∙ ap (λ b. max (bit_of now n) (cond b (bit_at found (n % 64)) 0)) t

joined_there : (w found n : ℕ) (now new : List ℕ) → (n / 64 ≡ w → ⊥) → IsJoined w found now new → bit_of new n ≡ bit_of now n
joined_there w found n now new other put =
    let t : nat_eq (n / 64) w ≡ false = elim (eqb_tells (n / 64) w) [
      | inl v ↦ absurd (other v.1)
      | inr v ↦ v.0
    ] in
    let e = put n ∙ ap (λ b. max (bit_of now n) (cond b (bit_at found (n % 64)) 0)) t in
    omega (arith, e)

pub more_words : (w found : ℕ) (q : Object → Bool) (os : List Object) (old now new : List ℕ) → AreBits found (64 * w) 64 q os → IsJoined w found now new → AreWordsTo w q os old now → AreWordsTo (w + 1) q os old new
more_words w found q os old now new bits put before =
    record {
      done = λ p those n m few. elim (cases_lt n (64 * w)) [
        | inl less ↦
            let other : n / 64 ≡ w → ⊥ = λ e. omega (arith, e, less) in
            joined_there w found n now new other put ∙ before.done p those n less few
        | inr more ↦
            let e : n / 64 ≡ w = omega (arith, more, m) in
            let i : 64 * w + n % 64 ≡ n = omega (arith, more, m) in
            let was : bit_of now n ≡ one (passes p os n) = before.left n more ∙ those n few in
            let is : bit_at found (n % 64) ≡ one (passes q os n) = bits (n % 64) (omega arith) ∙ ap (λ (j : ℕ). one (passes q os j)) i in
            joined_here w found n now new e put ∙ joined p q os n (bit_of now n) (bit_at found (n % 64)) was is
      ];
      left = λ n m.
          let other : n / 64 ≡ w → ⊥ = λ e. omega (arith, e, m) in
          joined_there w found n now new other put ∙ before.left n (omega (arith, m));
    }

past : (p : Object → Bool) (os : List Object) (n : ℕ) → length os ≤ n → passes p os n ≡ false
past p os n l = ap (λ (x : Option Object). option_map_or p x false) (slice_get_past os n l)

pub all_words : (w : ℕ) (p q : Object → Bool) (os : List Object) (old now : List ℕ) → length os ≤ 64 * w → AreWordsTo w q os old now → AreThose old p os → AreThose now (either p q) os
all_words w p q os old now l words those = λ n few.
    elim (cases_lt n (64 * w)) [
      | inl less ↦ words.done p those n less few
      | inr more ↦
          words.left n more ∙ those n few ∙ ap one (past p os n (omega (arith, l, more)))
          ∙ sym (ap one (past (either p q) os n (omega (arith, l, more))))
    ]

-- ---- the whole set

abbrev pub zeros : ℕ → List ℕ
zeros k = replicate k 0

zero_at : (k n : ℕ) → get_or (zeros k) n 0 ≡ 0
zero_at zero n = refl
zero_at (suc k) zero = refl
zero_at (suc k) (suc n) = zero_at k n

none_passes : (x : Option Object) → option_map_or (λ (o : Object). false) x false ≡ false
none_passes None = refl
none_passes (Some o) = refl

pub those_none : (words : List ℕ) (os : List Object) → words ≡ zeros 16 → AreThose words (λ o. false) os
those_none words os e = λ n l.
    let none : get_or words (n / 64) 0 ≡ 0 = ap (λ (ws : List ℕ). get_or ws (n / 64) 0) e ∙ zero_at 16 (n / 64) in
    ap (λ (w : ℕ). bit_at w (n % 64)) none ∙ bit_at-zero (n % 64) ∙ sym (ap one (none_passes (slice_get os n)))
