-- One more bit, and one more field in a list of those that were stored.
use Rattle.std.proofs.Common.{◌≡◌, ℕ, zero, suc, ◌+◌, ◌*◌, ◌%◌, ◌<◌, ◌^◌, Bool, true, false, ◌&&◌, ◌||◌, ◌==◌, List, [], ◌∷◌, length, get_or, set, ◌∙◌, refl, sym, ap, subst, inl, inr, arith, eqb, bit_or, w32}
use Rattle.std.specs.List.{list_any}
use Rattle.std.proofs.lemmas.Bool.{cases_eq}
use Rattle.std.proofs.lemmas.Bool.Decides.{nat_tests}
use Rattle.std.proofs.lemmas.Nat.Bits.{bit_at_set_same, bit_at_set_other}
use Rattle.std.proofs.lemmas.Grind.{pow_more}
use Rattle.std.proofs.Math.Pow.{pow-lt}
use Rattle.std.proofs.lemmas.Nat.{one_shl, pow_pos, or_lt}
use Rattle.tn_types.specs.BitWords.{has_bit}
use Rattle.world_lanes.specs.declared.raising.Changed.{Changed}
use Rattle.world_lanes.specs.Told.{is_of, is_told}

or_true : (b : Bool) → (b || true) ≡ true
or_true true = refl
or_true false = refl

or_false : (b : Bool) → (b || false) ≡ b
or_false true = refl
or_false false = refl

pub set_bit : (bits k f : ℕ) → k < 32 → has_bit (bit_or bits (1 * 2 ^ k % 2 ^ 32)) f ≡ (has_bit bits f || ((f == k) && true))
set_bit bits k f few = elim (cases_eq f k) [
  | inl same ↦
      let here : (f == k) ≡ true = grind (arith, nat_tests) in
      let is : has_bit (bit_or bits (1 * 2 ^ k % 2 ^ 32)) k ≡ true = ap (λ x. eqb x 1) (bit_at_set_same w32 bits k few) in
      let there : has_bit (bit_or bits (1 * 2 ^ k % 2 ^ 32)) f ≡ true = subst (λ g. has_bit (bit_or bits (1 * 2 ^ k % 2 ^ 32)) g ≡ true) (sym same) is in
      there ∙ sym (ap (λ b. has_bit bits f || (b && true)) here ∙ or_true (has_bit bits f))
  | inr other ↦
      let apart : (f == k) ≡ false = grind (arith, nat_tests) in
      ap (λ x. eqb x 1) (bit_at_set_other w32 bits k few f other) ∙ sym (ap (λ b. has_bit bits f || (b && true)) apart ∙ or_false (has_bit bits f))
]

pub few_more : (bits k : ℕ) → k < 32 → bits < 2 ^ k → bit_or bits (1 * 2 ^ k % 2 ^ 32) < 2 ^ (k + 1)
few_more bits k few below =
    let one : 1 * 2 ^ k % 2 ^ 32 ≡ 2 ^ k = one_shl k 32 few in
    let double : 2 ^ (k + 1) ≡ 2 * 2 ^ k = omega (arith, pow_more 2 k) in
    let some : 0 < 2 ^ k = pow_pos k in
    rw one (or_lt (k + 1) bits (2 ^ k) (omega (arith, double, below)) (omega (arith, double, some)))

pub few_bits : (bits k most : ℕ) → k < 32 → k < most → bits < 2 ^ most → bit_or bits (1 * 2 ^ k % 2 ^ 32) < 2 ^ most
few_bits bits k most few in' below = rw (one_shl k 32 few) (or_lt most bits (2 ^ k) below (pow-lt in'))

-- ---- a field in the list

turned : (k o : ℕ) → (k == o) ≡ (o == k)
turned k o = grind (arith, nat_tests)

swapped : (a b c : Bool) → ((a || b) || c) ≡ ((a || c) || b)
swapped true b c = refl
swapped false true true = refl
swapped false true false = refl
swapped false false true = refl
swapped false false false = refl

joined : (a b c : Bool) → (a || (b || c)) ≡ ((a || b) || c)
joined true b c = refl
joined false b c = refl

any_set : (p : Changed → Bool) (q : Bool) (xs : List Changed) (i : ℕ) (x y : Changed) → i < length xs → x ≡ get_or xs i x → p y ≡ (p x || q)
    → list_any p (set xs i y) ≡ (list_any p xs || q)
any_set p q [] i x y l at e = absurd (omega (arith, l))
any_set p q (z ∷ xs) zero x y l at e =
    ap (λ (b : Bool). b || list_any p xs) (e ∙ ap (λ (c : Changed). p c || q) at) ∙ swapped (p z) q (list_any p xs)
any_set p q (z ∷ xs) (suc i) x y l at e =
    ap (λ (b : Bool). p z || b) (any_set p q xs i x y (omega (arith, l)) at e) ∙ joined (p z) (list_any p xs) q

and_or : (e a b : Bool) → (e && (a || b)) ≡ ((e && a) || (e && b))
and_or true a b = refl
and_or false a b = refl

-- the field was listed with others of its object
pub listed_with : (xs : List Changed) (i : ℕ) (x : Changed) (bits object field : ℕ) → i < length xs → x ≡ get_or xs i x → x.object ≡ object
    → ((f : ℕ) → has_bit bits f ≡ (has_bit x.bits f || (f == field)))
    → (o f : ℕ) → is_told (set xs i (record { object = x.object; bits = bits })) o f ≡ (is_told xs o f || ((o == object) && (f == field)))
listed_with xs i x bits object field l at same all o f =
    any_set (is_of o f) ((o == object) && (f == field)) xs i x (record { object = x.object; bits = bits }) l at
    (ap (λ (b : Bool). (x.object == o) && b) (all f) ∙ and_or (x.object == o) (has_bit x.bits f) (f == field)
    ∙ ap (λ (b : Bool). ((x.object == o) && has_bit x.bits f) || (b && (f == field))) (turned x.object o ∙ ap (λ (n : ℕ). o == n) same))

one_place : (xs : List Changed) (i : ℕ) (a b : Changed) → i < length xs → a ≡ get_or xs i a → b ≡ get_or xs i b → a ≡ b
one_place [] i a b l e f = absurd (omega (arith, l))
one_place (x ∷ xs) zero a b l e f = e ∙ sym f
one_place (x ∷ xs) (suc i) a b l e f = one_place xs i a b (omega (arith, l)) e f

-- the same, by three looks at it
pub listed_as : (xs : List Changed) (i : ℕ) (x y z : Changed) (bits object field : ℕ) → i < length xs → x ≡ get_or xs i x → y ≡ get_or xs i y → z ≡ get_or xs i z
    → y.object ≡ object → ((f : ℕ) → has_bit bits f ≡ (has_bit z.bits f || (f == field)))
    → (o f : ℕ) → is_told (set xs i (record { object = x.object; bits = bits })) o f ≡ (is_told xs o f || ((o == object) && (f == field)))
listed_as xs i x y z bits object field l a b e same all =
    listed_with xs i x bits object field l a (ap (λ (c : Changed). c.object) (one_place xs i x y l a b) ∙ same)
    (λ f. all f ∙ ap (λ (c : Changed). has_bit c.bits f || (f == field)) (one_place xs i z x l e a))
