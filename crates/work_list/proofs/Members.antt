-- The members that four words say: one more, one less, and the first from a slot on.
use Rattle.std.proofs.Common.{◌≡◌, ℕ, zero, suc, ◌<◌, ◌≤◌, ◌+◌, ◌-◌, ◌*◌, ◌/◌, ◌%◌, ◌^◌, true, false, List, [], ◌∷◌, Some, None, length, get_or, slice_set, refl, sym, ◌∙◌, arith, inl, inr, true≢false}
use Rattle.std.specs.Int.{bit_at}
use Rattle.std.proofs.lemmas.Nat.Bits.{bit_at-zero}
use Rattle.std.proofs.lemmas.Bool.{cases_lt}
use Rattle.tn_types.specs.BitWords.{has_bit}
use Rattle.work_list.specs.Work.{has, IsUnique, without, with_in, next_of, first_of}
use Rattle.work_list.specs.Bits.{in_words, passing, members}
use Rattle.work_list.proofs.Passing.{has_passing, has_beyond, unique_passing, with_passing, without_passing, next_passing, first_passing, none_passing, skip_passing}
use Rattle.work_list.proofs.Words.{added, dropped, added_same, added_other, dropped_same, dropped_other, shifted, IsLowest}

pub has_members : (ws : List ℕ) (s : ℕ) → s < 256 → has (members ws) s ≡ in_words ws s
unfolding members
has_members ws s lt = has_passing (in_words ws) 256 0 s (omega arith) (omega (arith, lt))

below_members : (ws : List ℕ) (s : ℕ) → has (members ws) s ≡ true → s < 256
unfolding members
below_members ws s h =
    elim (cases_lt s 256) [
      | inl lt ↦ lt
      | inr le ↦ absurd (true≢false (sym h ∙ has_beyond (in_words ws) 256 0 s (omega (arith, le))))
    ]

pub unique_members : (ws : List ℕ) → IsUnique (members ws)
unfolding members
unique_members ws = unique_passing (in_words ws) 256 0

pub added_members : (ws : List ℕ) (s : ℕ) → length ws ≡ 4 → s < 256 → members (slice_set ws (s / 64) (added (get_or ws (s / 64) 0) (s % 64))) ≡ with_in s (members ws)
unfolding members
added_members ws s len lt =
    let at : s / 64 < length ws = omega (arith, len, lt) in
    sym (with_passing (in_words ws) (in_words (slice_set ws (s / 64) (added (get_or ws (s / 64) 0) (s % 64)))) s (added_same ws s at) (added_other ws s at) 256 0 (omega arith) (omega (arith, lt)))

pub dropped_members : (ws : List ℕ) (s : ℕ) → length ws ≡ 4 → s < 256 → members (slice_set ws (s / 64) (dropped (get_or ws (s / 64) 0) (s % 64))) ≡ without s (members ws)
unfolding members
dropped_members ws s len lt =
    let at : s / 64 < length ws = omega (arith, len, lt) in
    sym (without_passing (in_words ws) (in_words (slice_set ws (s / 64) (dropped (get_or ws (s / 64) 0) (s % 64)))) s (dropped_same ws s at) (dropped_other ws s at) 256 0)

abbrev no_words : List ℕ
no_words = 0 ∷ 0 ∷ 0 ∷ 0 ∷ []

zeros : (k : ℕ) → get_or no_words k 0 ≡ 0
zeros zero = refl
zeros (suc zero) = refl
zeros (suc (suc zero)) = refl
zeros (suc (suc (suc zero))) = refl
zeros (suc (suc (suc (suc k)))) = refl

pub no_members : members no_words ≡ []
unfolding members
no_members = none_passing (in_words no_words) 256 0 (λ u l m. rw (zeros (u / 64), bit_at-zero (u % 64)) refl)

-- ---- walks

pub first_members : (ws : List ℕ) → first_of (passing (in_words ws) 256 0) ≡ first_of (members ws)
unfolding members
first_members ws = refl

pub next_members : (ws : List ℕ) (s : ℕ) → has (members ws) s ≡ true → first_of (passing (in_words ws) (256 - (s + 1)) (s + 1)) ≡ next_of (members ws) (Some s)
unfolding members
next_members ws s h =
    let lt = below_members ws s h in
    let one : in_words ws s ≡ true = sym (has_members ws s lt) ∙ h in
    let e : suc s ≡ s + 1 = omega arith in
    let next = next_passing (in_words ws) s one 256 0 (256 - (s + 1)) (omega arith) (omega (arith, lt)) in
    sym (rw e at next)

in_at : (ws : List ℕ) (a i : ℕ) → i < 64 → in_words ws (64 * a + i) ≡ has_bit (get_or ws a 0) i
in_at ws a i lt =
    let word : (64 * a + i) / 64 ≡ a = omega (arith, lt) in
    let bit : (64 * a + i) % 64 ≡ i = omega (arith, lt) in
    rw (word, bit) refl

-- a slot of a word, by its bit
in_word : (ws : List ℕ) (a u : ℕ) → 64 * a ≤ u → u < 64 * a + 64 → in_words ws u ≡ has_bit (get_or ws a 0) (u - 64 * a)
in_word ws a u le lt =
    let e : 64 * a + (u - 64 * a) ≡ u = omega (arith, le) in
    let is = in_at ws a (u - 64 * a) (omega (arith, le, lt)) in
    rw e at is

pub no_bits : (ws : List ℕ) (a u : ℕ) → get_or ws a 0 ≡ 0 → 64 * a ≤ u → u < 64 * a + 64 → in_words ws u ≡ false
no_bits ws a u none le lt = in_word ws a u le lt ∙ rw (none, bit_at-zero (u - 64 * a)) refl

pub found_in : (ws : List ℕ) (from a r z : ℕ) → a < 4 → from ≤ 64 * a + r → ((u : ℕ) → from ≤ u → u < 64 * a + r → in_words ws u ≡ false) → IsLowest (get_or ws a 0) r z → first_of (passing (in_words ws) (256 - from) from) ≡ Some (64 * a + r + z)
found_in ws from a r z lt le none low =
    let one : in_words ws (64 * a + r + z) ≡ true =
    let e : 64 * a + (r + z) ≡ 64 * a + r + z = omega arith in
    let is = in_at ws a (r + z) low.inside ∙ low.here in
    rw e at is in
    first_passing (in_words ws) (64 * a + r + z) one (256 - from) from (omega (arith, le)) (omega (arith, le, lt, low.inside))
    (λ u l m. elim (cases_lt u (64 * a + r)) [
      | inl early ↦ none u l early
      | inr late ↦
          let e : r + (u - (64 * a + r)) ≡ u - 64 * a = omega (arith, late) in
          let off = low.none (u - (64 * a + r)) (omega (arith, late, m)) in
          in_word ws a u (omega (arith, late)) (omega (arith, m, low.inside)) ∙ (rw e at off)
    ])

-- where nothing is left of a word
pub rest_none : (ws : List ℕ) (s : ℕ) → get_or ws (s / 64) 0 / 2 ^ (s % 64) ≡ 0 → (u : ℕ) → s ≤ u → u < 64 * (s / 64) + 64 → in_words ws u ≡ false
rest_none ws s none u le lt =
    let w = get_or ws (s / 64) 0 in
    let r = s % 64 in
    let e : r + (u - s) ≡ u - 64 * (s / 64) = omega (arith, le) in
    let bit : bit_at w (r + (u - s)) ≡ 0 = sym (shifted w r (u - s)) ∙ rw none (bit_at-zero (u - s)) in
    let off : bit_at w (u - 64 * (s / 64)) ≡ 0 = rw e at bit in
    in_word ws (s / 64) u (omega (arith, le)) lt ∙ rw off refl

pub skip_word : (ws : List ℕ) (s : ℕ) → s < 256 → get_or ws (s / 64) 0 / 2 ^ (s % 64) ≡ 0 → passing (in_words ws) (256 - s) s ≡ passing (in_words ws) (256 - 64 * (s / 64 + 1)) (64 * (s / 64 + 1))
skip_word ws s lt none =
    let j = 64 * (s / 64 + 1) - s in
    let all : j + (256 - 64 * (s / 64 + 1)) ≡ 256 - s = omega (arith, lt) in
    let at : s + j ≡ 64 * (s / 64 + 1) = omega arith in
    let skip = skip_passing (in_words ws) j (256 - 64 * (s / 64 + 1)) s (λ u l m. rest_none ws s none u l (omega (arith, m, at))) in
    rw (all, at) at skip

pub none_left : (ws : List ℕ) (s : ℕ) → s ≤ 256 → ((u : ℕ) → s ≤ u → u < 256 → in_words ws u ≡ false) → first_of (passing (in_words ws) (256 - s) s) ≡ None
none_left ws s le none = rw (none_passing (in_words ws) (256 - s) s (λ u l m. none u l (omega (arith, m, le)))) refl
