-- Words of 64 bits: what one bit more or less changes, and the lowest bit of what is left of a word.
use Rattle.std.proofs.Common.{◌≡◌, ◌≢◌, ℕ, ◌<◌, ◌+◌, ◌-◌, ◌*◌, ◌/◌, ◌%◌, ◌^◌, true, false, List, length, get_or, get_or-set_same, get_or-set_other, slice_set, bit_and, bit_or, refl, sym, ◌∙◌, ap, arith, inl, inr}
use Rattle.std.specs.Int.{bit_at, trailing_zeros, w64}
use Rattle.std.proofs.lemmas.Nat.Bits.{bit_at_set_same, bit_at_set_other, bit_at_clear_same, bit_at_clear_other, bit_at-trailing_zeros, bit_at_above}
use Rattle.std.proofs.lemmas.Nat.{shr-shr}
use Rattle.std.proofs.lemmas.Bool.Decides.{eqb_tells}
use Rattle.std.proofs.lemmas.Bool.{cases_lt}
use Rattle.tn_types.specs.BitWords.{has_bit}
use Rattle.work_list.specs.Bits.{in_words}

abbrev pub added : ℕ → ℕ → ℕ
added w i = bit_or w (1 * 2 ^ i % 18446744073709551616)

abbrev pub dropped : ℕ → ℕ → ℕ
dropped w i = bit_and w (18446744073709551615 - 1 * 2 ^ i % 18446744073709551616)

-- two slots in one word differ in their bits
apart : (s t : ℕ) → t / 64 ≡ s / 64 → t ≢ s → t % 64 ≢ s % 64
apart s t word ne bit = ne (omega (arith, word, bit))

pub added_same : (ws : List ℕ) (s : ℕ) → s / 64 < length ws → in_words (slice_set ws (s / 64) (added (get_or ws (s / 64) 0) (s % 64))) s ≡ true
added_same ws s lt =
    let here = get_or-set_same ws (s / 64) (added (get_or ws (s / 64) 0) (s % 64)) 0 lt in
    let one = bit_at_set_same w64 (get_or ws (s / 64) 0) (s % 64) (omega arith) in
    rw (here, one) refl

pub added_other : (ws : List ℕ) (s : ℕ) → s / 64 < length ws → (t : ℕ) → t ≢ s → in_words (slice_set ws (s / 64) (added (get_or ws (s / 64) 0) (s % 64))) t ≡ in_words ws t
added_other ws s lt t ne =
    elim (eqb_tells (t / 64) (s / 64)) [
      | inl w ↦
          let here = get_or-set_same ws (s / 64) (added (get_or ws (s / 64) 0) (s % 64)) 0 lt in
          let bit = bit_at_set_other w64 (get_or ws (s / 64) 0) (s % 64) (omega arith) (t % 64) (apart s t w.1 ne) in
          rw (w.1, here, bit) refl
      | inr w ↦ rw (get_or-set_other ws (s / 64) (t / 64) (added (get_or ws (s / 64) 0) (s % 64)) 0 w.1) refl
    ]

pub dropped_same : (ws : List ℕ) (s : ℕ) → s / 64 < length ws → in_words (slice_set ws (s / 64) (dropped (get_or ws (s / 64) 0) (s % 64))) s ≡ false
dropped_same ws s lt =
    let here = get_or-set_same ws (s / 64) (dropped (get_or ws (s / 64) 0) (s % 64)) 0 lt in
    let none = bit_at_clear_same w64 (get_or ws (s / 64) 0) (s % 64) (omega arith) in
    rw (here, none) refl

pub dropped_other : (ws : List ℕ) (s : ℕ) → s / 64 < length ws → (t : ℕ) → t ≢ s → in_words (slice_set ws (s / 64) (dropped (get_or ws (s / 64) 0) (s % 64))) t ≡ in_words ws t
dropped_other ws s lt t ne =
    elim (eqb_tells (t / 64) (s / 64)) [
      | inl w ↦
          let here = get_or-set_same ws (s / 64) (dropped (get_or ws (s / 64) 0) (s % 64)) 0 lt in
          let bit = bit_at_clear_other w64 (get_or ws (s / 64) 0) (s % 64) (omega arith) (t % 64) (omega arith) (apart s t w.1 ne) in
          rw (w.1, here, bit) refl
      | inr w ↦ rw (get_or-set_other ws (s / 64) (t / 64) (dropped (get_or ws (s / 64) 0) (s % 64)) 0 w.1) refl
    ]

-- ---- the lowest bit of what is left of a word from a bit on

pub shifted : (w r i : ℕ) → bit_at (w / 2 ^ r) i ≡ bit_at w (r + i)
shifted w r i = ap (λ (x : ℕ). x % 2) (shr-shr w r i)

pub record IsLowest (w r z : ℕ) : Type 0 where
  pub inside : r + z < 64
  pub here : has_bit w (r + z) ≡ true
  pub none : (i : ℕ) → i < z → has_bit w (r + i) ≡ false

pub lowest : (w r : ℕ) → w < 2 ^ 64 → 0 < w / 2 ^ r → w / 2 ^ r < 2 ^ 64 → IsLowest w r (trailing_zeros w64 (w / 2 ^ r))
lowest w r range some small =
    let rest = w / 2 ^ r in
    let z = trailing_zeros w64 rest in
    let t = bit_at-trailing_zeros w64 rest some small in
    let one : bit_at w (r + z) ≡ 1 = sym (shifted w r z) ∙ t.1 in
    record {
      inside = elim (cases_lt (r + z) 64) [
        | inl lt ↦ lt
        | inr le ↦ absurd (omega (arith, one, bit_at_above w 64 (r + z) range le))
      ];
      here = rw one refl;
      none = λ i lt. let zero = sym (shifted w r i) ∙ t.2 i lt in rw zero refl;
    }

pub lowest_whole : (w : ℕ) → w < 2 ^ 64 → 0 < w → IsLowest w 0 (trailing_zeros w64 w)
lowest_whole w range some =
    let z = trailing_zeros w64 w in
    let t = bit_at-trailing_zeros w64 w some range in
    record {
      inside = omega (arith, t.0);
      here = let e : 0 + z ≡ z = omega arith in rw (e, t.1) refl;
      none = λ i lt. let e : 0 + i ≡ i = omega arith in rw (e, t.2 i lt) refl;
    }
