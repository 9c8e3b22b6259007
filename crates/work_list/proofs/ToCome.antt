-- The members that a walk still comes to.
use Rattle.std.proofs.Common.{◌≡◌, ◌≢◌, ℕ, ◌<◌, ◌≤◌, ◌+◌, ◌-◌, ◌*◌, ◌/◌, ◌%◌, ◌^◌, true, false, List, [], ◌∷◌, Some, length, get_or, get_or-set_same, get_or-set_other, slice_set, bit_and, refl, sym, ◌∙◌, ap, arith, eqb, inl, inr}
use Rattle.std.specs.Int.{trailing_zeros, w64}
use Rattle.std.proofs.lemmas.Nat.Bits.{bit_at-zero, bit_at-trailing_zeros}
use Rattle.std.proofs.lemmas.List.{set-get_or}
use Rattle.std.proofs.lemmas.Bool.Decides.{nat_tests, eqb_tells}
use Rattle.tn_types.specs.BitWords.{has_bit}
use Rattle.work_list.specs.Work.{IsUnique, without, first_of}
use Rattle.work_list.specs.Bits.{in_words, passing, members, to_come}
use Rattle.work_list.proofs.Lists.{without-absent}
use Rattle.work_list.proofs.Passing.{unique_passing, without_passing, first_passing, none_passing, skip_passing, same_passing}
use Rattle.work_list.proofs.LowestBit.{IsLowestOf, lowest_of, bit_up_to, other_bits}

-- at the front all are still to come
pub all_to_come : (ws : List ℕ) → to_come ws 0 (get_or ws 0 0) ≡ members ws
unfolding members to_come
all_to_come ws = rw (set-get_or ws 0 0) refl

pub unique_to_come : (ws : List ℕ) (a rest : ℕ) → IsUnique (to_come ws a rest)
unfolding to_come
unique_to_come ws a rest = unique_passing (in_words (slice_set ws a rest)) (256 - 64 * a) (64 * a)

-- ---- words with nothing left

-- nothing is left of word a, and the words behind it up to word b are empty
abbrev pub AreEmpty : List ℕ → ℕ → ℕ → Type 0
AreEmpty ws a b = (i : ℕ) → a < i → i < b → get_or ws i 0 ≡ 0

module _ (ws : List ℕ) (a : ℕ) (lt : a < length ws) where
  no_slot : (b : ℕ) → AreEmpty ws a b → (u : ℕ) → 64 * a ≤ u → u < 64 * b → in_words (slice_set ws a 0) u ≡ false
  no_slot b empty u le m =
      elim (eqb_tells (u / 64) a) [
        | inl w ↦ rw (w.1, get_or-set_same ws a 0 0 lt, bit_at-zero (u % 64)) refl
        | inr w ↦ rw (get_or-set_other ws a (u / 64) 0 0 w.1, empty (u / 64) (omega (arith, le, w.1)) (omega (arith, m)), bit_at-zero (u % 64)) refl
      ]

  -- another word is as it is
  other_word : (rest u : ℕ) → u / 64 ≢ a → in_words (slice_set ws a rest) u ≡ in_words ws u
  other_word rest u ne = rw (get_or-set_other ws a (u / 64) rest 0 ne) refl

  -- word b is the next with something left
  pub skip_empty : (b : ℕ) → a < b → b < 4 → AreEmpty ws a b → to_come ws b (get_or ws b 0) ≡ to_come ws a 0
  unfolding to_come
  skip_empty b less most empty =
      let j = 64 * (b - a) in
      let all : j + (256 - 64 * b) ≡ 256 - 64 * a = omega (arith, less, most) in
      let at : 64 * a + j ≡ 64 * b = omega (arith, less) in
      let skip = skip_passing (in_words (slice_set ws a 0)) j (256 - 64 * b) (64 * a) (λ u l m. no_slot b empty u l (omega (arith, m, at))) in
      let skip : passing (in_words (slice_set ws a 0)) (256 - 64 * a) (64 * a) ≡ passing (in_words (slice_set ws a 0)) (256 - 64 * b) (64 * b) = rw (all, at) at skip in
      let same = same_passing (in_words ws) (in_words (slice_set ws a 0)) (256 - 64 * b) (64 * b) (λ u l. other_word 0 u (λ e. absurd (omega (arith, l, e, less)))) in
      rw (set-get_or ws b 0) (same ∙ sym skip)

  pub none_to_come : AreEmpty ws a 4 → to_come ws a 0 ≡ []
  unfolding to_come
  none_to_come empty = none_passing (in_words (slice_set ws a 0)) (256 - 64 * a) (64 * a) (λ u l m. no_slot 4 empty u l (omega (arith, m)))

-- ---- one member further

first_and_others : (xs : List ℕ) (t : ℕ) → IsUnique xs → first_of xs ≡ Some t → xs ≡ t ∷ without t xs
first_and_others [] t u e = absurd (cc)
first_and_others (x ∷ xs) t u e =
    let same : x ≡ t = cc in
    grind (arith, nat_tests, without-absent t xs, u.0, same)

module _ (ws : List ℕ) (a rest : ℕ) (lt : a < length ws) (most : a < 4) (some : 0 < rest) (range : rest < 2 ^ 64) where
  abbrev pub z : ℕ
  z = trailing_zeros w64 rest

  low : IsLowestOf z rest
  low = lowest_of rest some range

  inside : z < 64
  inside = omega (arith, (bit_at-trailing_zeros w64 rest some range).0)

  -- a slot of this word, where `left` is left of it
  here : (left i : ℕ) → i < 64 → in_words (slice_set ws a left) (64 * a + i) ≡ has_bit left i
  here left i less =
      let word : (64 * a + i) / 64 ≡ a = omega (arith, less) in
      let bit : (64 * a + i) % 64 ≡ i = omega (arith, less) in
      rw (word, bit, get_or-set_same ws a left 0 lt) refl

  this_word : (left u : ℕ) → u / 64 ≡ a → in_words (slice_set ws a left) u ≡ has_bit left (u % 64)
  this_word left u word = rw (word, get_or-set_same ws a left 0 lt) refl

  gone : in_words (slice_set ws a (bit_and rest (rest - 1))) (64 * a + z) ≡ false
  gone = here (bit_and rest (rest - 1)) z inside ∙ rw (bit_up_to z rest z low (omega arith)) refl

  others : (u : ℕ) → u ≢ 64 * a + z → in_words (slice_set ws a (bit_and rest (rest - 1))) u ≡ in_words (slice_set ws a rest) u
  others u ne =
      elim (eqb_tells (u / 64) a) [
        | inl w ↦
            let bit : u % 64 ≢ z = λ e. ne (omega (arith, w.1, e)) in
            this_word (bit_and rest (rest - 1)) u w.1 ∙ ap (λ n. eqb n 1) (other_bits z rest (u % 64) low bit) ∙ sym (this_word rest u w.1)
        | inr w ↦ other_word ws a lt (bit_and rest (rest - 1)) u w.1 ∙ sym (other_word ws a lt rest u w.1)
      ]

  is_first : first_of (passing (in_words (slice_set ws a rest)) (256 - 64 * a) (64 * a)) ≡ Some (64 * a + z)
  is_first =
      let one : in_words (slice_set ws a rest) (64 * a + z) ≡ true = here rest z inside ∙ rw low.set refl in
      first_passing (in_words (slice_set ws a rest)) (64 * a + z) one (256 - 64 * a) (64 * a) (omega arith) (omega (arith, most, inside))
      (λ u l m.
      let word : u / 64 ≡ a = omega (arith, l, m, inside) in
      let off = low.below (u % 64) (omega (arith, l, m, word)) in
      this_word rest u word ∙ rw off refl)

  pub first_to_come : to_come ws a rest ≡ (64 * a + z) ∷ to_come ws a (bit_and rest (rest - 1))
  unfolding to_come
  first_to_come =
      let p = in_words (slice_set ws a rest) in
      let all = first_and_others (passing p (256 - 64 * a) (64 * a)) (64 * a + z) (unique_passing p (256 - 64 * a) (64 * a)) is_first in
      let left = without_passing p (in_words (slice_set ws a (bit_and rest (rest - 1)))) (64 * a + z) gone others (256 - 64 * a) (64 * a) in
      all ∙ ap (λ l. (64 * a + z) ∷ l) left
