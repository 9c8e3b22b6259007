-- A set of words with a mark for each that may have a number, as numbers come into it.
use Rattle.std.proofs.Common.{◌≡◌, ℕ, ◌*◌, ◌/◌, ◌%◌, ◌^◌, ◌-◌, ◌<◌, ◌≤◌, inl, inr, true, false, cond, nat_eq, nat_lt, max, List, length, get_or, set, sym, ap, ◌∙◌, arith, get_or-set_same, get_or-set_other, bit_or}
use Rattle.std.specs.Int.{bit_at}
use Rattle.std.proofs.lemmas.Nat.{one_shl}
use Rattle.std.proofs.lemmas.Nat.Bits.{bit_at_or, bit_at_ones, bit_at_ones_above}
use Rattle.std.proofs.lemmas.List.{length-set}
use Rattle.std.proofs.lemmas.Bool.{cases_lt}
use Rattle.std.proofs.lemmas.Bool.Decides.{nat_tests, eqb_tells}
use Rattle.world_cells.specs.NumberSet.{bit_of}
use Rattle.world_cells.proofs.LineBits.{set_bit}
use Rattle.world_scope.specs.Marks.{IsMarked, AreMarks}

-- ---- one number more

pub one_more : (words : List ℕ) (number n : ℕ) → length words ≡ 16 → number < 1024 → bit_of (set words (number / 64) (bit_or (get_or words (number / 64) 0) (1 * 2 ^ (number % 64) % 2 ^ 64))) n ≡ cond (nat_eq n number) 1 (bit_of words n)
one_more words number n many l =
    let old = get_or words (number / 64) 0 in
    let new = bit_or old (1 * 2 ^ (number % 64) % 2 ^ 64) in
    let there : number / 64 < length words = omega (arith, many, l) in
    elim (eqb_tells (n / 64) (number / 64)) [
      | inl v ↦
          let e = v.1 in
          let got : get_or (set words (number / 64) new) (n / 64) 0 ≡ new = ap (λ (j : ℕ). get_or (set words (number / 64) new) j 0) e ∙ get_or-set_same words (number / 64) new 0 there in
          let test : nat_eq (n % 64) (number % 64) ≡ nat_eq n number = grind (arith, nat_tests) in
          ap (λ (w : ℕ). bit_at w (n % 64)) got
          ∙ set_bit old (number % 64) (n % 64) (omega arith)
          ∙ ap (λ b. cond b 1 (bit_at old (n % 64))) test
          ∙ ap (λ (j : ℕ). cond (nat_eq n number) 1 (bit_at (get_or words j 0) (n % 64))) (sym e)
      | inr v ↦
          let other = v.1 in
          let test : nat_eq n number ≡ false = elim (eqb_tells n number) [
            | inl w ↦ absurd (other (ap (λ (k : ℕ). k / 64) w.1))
            | inr w ↦ w.0
          ] in
          ap (λ (w : ℕ). bit_at w (n % 64)) (get_or-set_other words (number / 64) (n / 64) new 0 other)
          ∙ sym (ap (λ b. cond b 1 (bit_of words n)) test)
    ]

-- ---- a word more

pub word_more : (words : List ℕ) (w found n : ℕ) → w < length words → bit_of (set words w (bit_or (get_or words w 0) found)) n ≡ max (bit_of words n) (cond (nat_eq (n / 64) w) (bit_at found (n % 64)) 0)
word_more words w found n there =
    let new = bit_or (get_or words w 0) found in
    elim (eqb_tells (n / 64) w) [
      | inl v ↦
          let e = v.1 in
          let got : get_or (set words w new) (n / 64) 0 ≡ new = ap (λ (j : ℕ). get_or (set words w new) j 0) e ∙ get_or-set_same words w new 0 there in
          ap (λ (x : ℕ). bit_at x (n % 64)) got ∙ bit_at_or (get_or words w 0) found (n % 64)
          ∙ ap (λ (j : ℕ). max (bit_at (get_or words j 0) (n % 64)) (bit_at found (n % 64))) (sym e)
          ∙ sym (ap (λ b. max (bit_of words n) (cond b (bit_at found (n % 64)) 0)) v.0)
      | inr v ↦
          let none : max (bit_of words n) 0 ≡ bit_of words n = omega arith in
          ap (λ (x : ℕ). bit_at x (n % 64)) (get_or-set_other words w (n / 64) new 0 v.1)
          ∙ sym none
          ∙ sym (ap (λ b. max (bit_of words n) (cond b (bit_at found (n % 64)) 0)) v.0)
    ]

-- ---- the marks

-- the place of no mark is another one than that of a mark
other_place : (marks w k : ℕ) → bit_at marks w ≡ 1 → bit_at marks k ≡ 0 → k ≡ w → ⊥
other_place marks w k one none e =
    let same : bit_at marks k ≡ bit_at marks w = ap (bit_at marks) e in
    omega (arith, one, none, same)

pub marked_more : (words : List ℕ) (marks more w new : ℕ) → bit_at more w ≡ 1 → ((k : ℕ) → 16 ≤ k → bit_at more k ≡ 0) → IsMarked words marks → IsMarked (set words w new) (bit_or marks more)
marked_more words marks more w new one few before = record {
  many = length-set words w new ∙ before.many;
  few = λ k l.
      let a = before.few k l in
      let b = few k l in
      let both = bit_at_or marks more k in
      omega (arith, a, b, both);
  none = λ k e.
      let both = bit_at_or marks more k in
      let a : bit_at marks k ≡ 0 = omega (arith, e, both) in
      let b : bit_at more k ≡ 0 = omega (arith, e, both) in
      get_or-set_other words w k new 0 (other_place more w k one b) ∙ before.none k a;
}

-- a mark of one word
pub one_marked : (words : List ℕ) (marks w new : ℕ) → w < 16 → IsMarked words marks → IsMarked (set words w new) (bit_or marks (1 * 2 ^ w % 2 ^ 64))
one_marked words marks w new l before = record {
  many = length-set words w new ∙ before.many;
  few = λ k m.
      let t : nat_eq k w ≡ false = grind (arith, nat_tests) in
      set_bit marks w k (omega (arith, l)) ∙ ap (λ b. cond b 1 (bit_at marks k)) t ∙ before.few k m;
  none = λ k e.
      let is = set_bit marks w k (omega (arith, l)) in
      elim (eqb_tells k w) [
        | inl v ↦
            let a : bit_at (bit_or marks (1 * 2 ^ w % 2 ^ 64)) k ≡ 1 = is ∙ ap (λ b. cond b 1 (bit_at marks k)) v.0 in
            absurd (omega (arith, a, e))
        | inr v ↦
            let a : bit_at marks k ≡ 0 = sym (is ∙ ap (λ b. cond b 1 (bit_at marks k)) v.0) ∙ e in
            get_or-set_other words w k new 0 v.1 ∙ before.none k a
      ];
}

pub are_marked : (words more w : ℕ) → w < words → AreMarks words more → bit_at more w ≡ 1
are_marked words more w l marks =
    let t : nat_lt w words ≡ true = grind (arith, nat_tests) in
    marks w ∙ ap (λ b. cond b 1 0) t

pub few_marked : (words more : ℕ) → words ≤ 16 → AreMarks words more → (k : ℕ) → 16 ≤ k → bit_at more k ≡ 0
few_marked words more l marks k m =
    let t : nat_lt k words ≡ false = grind (arith, nat_tests) in
    marks k ∙ ap (λ b. cond b 1 0) t

pub first_marks_are : (k : ℕ) → k ≤ 16 → AreMarks k (1 * 2 ^ k % 2 ^ 64 - 1)
first_marks_are k l = λ w.
    let one : 1 * 2 ^ k % 2 ^ 64 ≡ 2 ^ k = one_shl k 64 (omega (arith, l)) in
    elim (cases_lt w k) [
      | inl less ↦
          let t : nat_lt w k ≡ true = grind (arith, nat_tests) in
          ap (λ (m : ℕ). bit_at (m - 1) w) one ∙ bit_at_ones k w less ∙ sym (ap (λ b. cond b 1 0) t)
      | inr more ↦
          let t : nat_lt w k ≡ false = grind (arith, nat_tests) in
          ap (λ (m : ℕ). bit_at (m - 1) w) one ∙ bit_at_ones_above k w more ∙ sym (ap (λ b. cond b 1 0) t)
    ]
