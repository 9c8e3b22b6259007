-- A bit of a bitwise or stands in one of the two, and so a bit of a mask in one of the raises.
use Rattle.std.proofs.Common.{◌≡◌, ◌≢◌, ◌⊎◌, ◌↔◌, ℕ, zero, suc, ◌*◌, ◌^◌, List, [], ◌∷◌, refl, sym, ap, ◌∙◌, subst, arith, inl, inr, ⊎_elim, max}
use Rattle.std.specs.Prelude.{Any, IsBitSet, bit_or}
use Rattle.std.specs.Int.{bit_at}
use Rattle.std.proofs.lemmas.Nat.{pow_pos}
use Rattle.std.proofs.lemmas.Nat.Bits.{bit_at_or, bit_at-lt, bit_at-zero, and_pow}
use Rattle.std.proofs.lemmas.Bool.{cases_eq}
use Rattle.dirty_lanes.specs.Log.{or_of}

set_bit : (n k : ℕ) → IsBitSet n k → bit_at n k ≡ 1
set_bit n k set =
    ⊎_elim (λ (e : bit_at n k ≡ 0). absurd (set (and_pow n k ∙ ap (λ (b : ℕ). b * 2 ^ k) e ∙ omega arith)))
    (λ (ne : bit_at n k ≢ 0). omega (arith, bit_at-lt n k)) (cases_eq (bit_at n k) 0)

bit_set : (n k : ℕ) → bit_at n k ≡ 1 → IsBitSet n k
bit_set n k is none = let one : 1 * 2 ^ k ≡ 0 = ap (λ (b : ℕ). b * 2 ^ k) (sym is) ∙ sym (and_pow n k) ∙ none in omega (arith, pow_pos k)

or_out : (a b k : ℕ) → IsBitSet (bit_or a b) k → IsBitSet a k ⊎ IsBitSet b k
or_out a b k set =
    let is : max (bit_at a k) (bit_at b k) ≡ 1 = sym (bit_at_or a b k) ∙ set_bit (bit_or a b) k set in
    ⊎_elim (λ (e : bit_at a k ≡ 1). inl (bit_set a k e))
    (λ (ne : bit_at a k ≢ 1). inr (bit_set b k (omega (arith, bit_at-lt a k, bit_at-lt b k)))) (cases_eq (bit_at a k) 1)

or_left : (a b k : ℕ) → IsBitSet a k → IsBitSet (bit_or a b) k
or_left a b k set = let one = set_bit a k set in bit_set (bit_or a b) k (bit_at_or a b k ∙ omega (arith, bit_at-lt b k))

or_right : (a b k : ℕ) → IsBitSet b k → IsBitSet (bit_or a b) k
or_right a b k set = let one = set_bit b k set in bit_set (bit_or a b) k (bit_at_or a b k ∙ omega (arith, bit_at-lt a k))

raised_bit : (bs : List ℕ) (k : ℕ) → IsBitSet (or_of bs) k → Any (λ bits. IsBitSet bits k) bs
raised_bit [] k set = absurd (set (and_pow 0 k ∙ ap (λ (b : ℕ). b * 2 ^ k) (bit_at-zero k) ∙ omega arith))
raised_bit (b ∷ bs) k set =
    ⊎_elim (λ (rest : IsBitSet (or_of bs) k). let r = raised_bit bs k rest in (suc r.0, r.1, omega (arith, r.2), r.3, r.4))
    (λ (first : IsBitSet b k). (0, b, omega arith, refl, first)) (or_out (or_of bs) b k set)

bit_raised : (bs : List ℕ) (k : ℕ) → Any (λ bits. IsBitSet bits k) bs → IsBitSet (or_of bs) k
bit_raised [] k (i, bits, within, is, set) = absurd (omega (arith, within))
bit_raised (b ∷ bs) k (zero, bits, within, is, set) = or_right (or_of bs) b k (subst (λ (n : ℕ). IsBitSet n k) (sym is) set)
bit_raised (b ∷ bs) k (suc i, bits, within, is, set) = or_left (or_of bs) b k (bit_raised bs k (i, bits, omega (arith, within), is, set))

pub each_bit : (bs : List ℕ) (k : ℕ) → IsBitSet (or_of bs) k ↔ Any (λ bits. IsBitSet bits k) bs
each_bit bs k = (raised_bit bs k, bit_raised bs k)
