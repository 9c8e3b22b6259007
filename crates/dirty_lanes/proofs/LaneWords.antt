-- Words, bits and lists, away from the rule.
use Rattle.std.proofs.Common.{not, ◌≡◌, ◌≢◌, ℕ, zero, suc, ◌-◌, ◌<◌, Bool, true, false, ◌&&◌, ◌||◌, ◌==◌, List, [], ◌∷◌, ◌++◌, length, get_or, set, Some, refl, ap, ◌∙◌, arith}
use Rattle.std.specs.Prelude.{slice_get}
use Rattle.std.specs.Int.{bit_at}
use Rattle.std.specs.Int.Bits.{bit_or}
use Rattle.std.proofs.lemmas.Nat.Bits.{bit_at_or, bit_at-lt, bit_at-zero}
use Rattle.std.proofs.lemmas.Bool.Decides.{nat_tests}
use Rattle.tn_types.specs.BitWords.{has_bit}
use Rattle.dirty_lanes.specs.Views.{is_at}
use Rattle.dirty_lanes.specs.Words.{field_word, mask_word}
use Rattle.dirty_lanes.specs.Rule.{object_of, place_of}

pub bool_cases : {P : Type 0} → (b : Bool) → (b ≡ true → P) → (b ≡ false → P) → P
bool_cases true t f = t refl
bool_cases false t f = f refl

pub or_true : (b : Bool) → (b || true) ≡ true
or_true true = refl
or_true false = refl

pub and_true : (b : Bool) → (b && true) ≡ b
and_true true = refl
and_true false = refl

pub and_false : (b : Bool) → (b && false) ≡ false
and_false true = refl
and_false false = refl

pub same_out : (a b o f : ℕ) → is_at a b o f ≡ true → (a ≡ o) × (b ≡ f)
same_out a b o f e = (grind (arith, nat_tests), grind (arith, nat_tests))

pub same_here : (a b : ℕ) → is_at a b a b ≡ true
same_here a b = grind (arith, nat_tests)

pub test_here : (a : ℕ) → (a == a) ≡ true
test_here a = grind (arith, nat_tests)

pub test_out : (a b : ℕ) → (a == b) ≡ true → a ≡ b
test_out a b e = grind (arith, nat_tests)

pub field_object : (o f : ℕ) → f < 32 → object_of (field_word o f) ≡ o
field_object o f h = omega arith

pub field_place : (o f : ℕ) → f < 32 → place_of (field_word o f) ≡ f
field_place o f h = omega arith

pub mask_object : (c o : ℕ) → c < 16 → object_of (mask_word c o) ≡ o
mask_object c o h = omega arith

pub mask_client : (c o : ℕ) → c < 16 → place_of (mask_word c o) - 16 ≡ c
mask_client c o h = omega arith

pub fields_apart : (o f a b : ℕ) → f < 16 → b < 16 → is_at a b o f ≡ false → field_word o f ≢ field_word a b
fields_apart o f a b h k e is = let p : a ≡ o = omega arith in let q : b ≡ f = omega arith in grind (arith, nat_tests)

pub masks_apart : (c o d a : ℕ) → c < 16 → d < 16 → is_at d a c o ≡ false → mask_word c o ≢ mask_word d a
masks_apart c o d a h k e is = let p : a ≡ o = omega arith in let q : d ≡ c = omega arith in grind (arith, nat_tests)

pub kinds_apart : (o f c a : ℕ) → f < 16 → c < 16 → field_word o f ≢ mask_word c a
kinds_apart o f c a h k is = omega arith

pub set_back : (words : List ℕ) (i : ℕ) → i < length words → set words i (get_or words i 0) ≡ words
set_back [] i h = absurd (omega arith)
set_back (x ∷ xs) zero h = refl
set_back (x ∷ xs) (suc i) h = ap (λ (l : List ℕ). x ∷ l) (set_back xs i (omega arith))

pub bit_or_set : (m b f : ℕ) → has_bit b f ≡ true → has_bit (bit_or m b) f ≡ true
bit_or_set m b f e =
    let one : bit_at b f ≡ 1 = test_out (bit_at b f) 1 e in
    let small : bit_at m f < 2 = bit_at-lt m f in
    let or : bit_at (bit_or m b) f ≡ 1 = bit_at_or m b f ∙ omega arith in
    rw or refl

pub bit_or_unset : (m b f : ℕ) → has_bit b f ≡ false → has_bit (bit_or m b) f ≡ has_bit m f
bit_or_unset m b f e =
    let small : bit_at b f < 2 = bit_at-lt b f in
    let ne : bit_at b f ≢ 1 = λ is. grind (arith, nat_tests) in
    let or : bit_at (bit_or m b) f ≡ bit_at m f = bit_at_or m b f ∙ omega arith in
    ap (λ (n : ℕ). n == 1) or

pub no_bit : (f : ℕ) → has_bit 0 f ≡ false
no_bit f = ap (λ (n : ℕ). n == 1) (bit_at-zero f)

pub get_front : (xs ys : List ℕ) (k p : ℕ) → slice_get xs k ≡ Some p → slice_get (xs ++ ys) k ≡ Some p
get_front [] ys k p e = absurd (cc)
get_front (x ∷ xs) ys zero p e = e
get_front (x ∷ xs) ys (suc k) p e = get_front xs ys k p e

pub get_last : (xs : List ℕ) (n x : ℕ) → length xs ≡ n → slice_get (xs ++ x ∷ []) n ≡ Some x
get_last [] zero x e = refl
get_last [] (suc n) x e = absurd (omega arith)
get_last (y ∷ ys) zero x e = absurd (omega arith)
get_last (y ∷ ys) (suc n) x e = get_last ys n x (omega arith)

pub any_default : (xs : List ℕ) (i a b : ℕ) → i < length xs → get_or xs i a ≡ get_or xs i b
any_default [] i a b h = absurd (omega arith)
any_default (x ∷ xs) zero a b h = refl
any_default (x ∷ xs) (suc i) a b h = any_default xs i a b (omega arith)

pub or_left : (a b : Bool) → a ≡ true → (a || b) ≡ true
or_left a b e = rw e refl

pub and_not : (a b : Bool) → b ≡ true → (a && not b) ≡ false
and_not true b e = rw e refl
and_not false b e = refl

pub first_of : (a b c d : Bool) → (((a || b) || c) || d) ≡ true → b ≡ false → c ≡ false → d ≡ false → a ≡ true
first_of true b c d e nb nc nd = refl
first_of false true c d e nb nc nd = absurd (cc)
first_of false false true d e nb nc nd = absurd (cc)
first_of false false false true e nb nc nd = absurd (cc)
first_of false false false false e nb nc nd = e
