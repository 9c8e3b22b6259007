-- Bits of masks of fields, and what one row says after each step.
use Rattle.std.proofs.Common.{◌≡◌, ◌≢◌, ℕ, zero, suc, ◌+◌, ◌-◌, ◌*◌, ◌%◌, ◌<◌, ◌≤◌, ◌^◌, Bool, true, false, not, cond, ◌&&◌, ◌||◌, List, [], ◌∷◌, ◌∙◌, length, get_or, set, get_or-set_same, get_or-set_other, length-set, refl, sym, ap, inl, inr, arith, eqb, leb, ltb, max, min, bit_and, bit_or, w32}
use Rattle.std.specs.Int.{bit_at, bit_not, trailing_zeros}
use Rattle.std.proofs.lemmas.List.FromFn.{get_or-map-range_with_len}
use Rattle.std.proofs.lemmas.Bool.{cases_eq, cases_lt}
use Rattle.std.proofs.lemmas.Bool.Decides.{nat_tests}
use Rattle.std.proofs.lemmas.Nat.Bits.{bit_at_or, bit_at_and, bit_at_not, bit_at-lt, bit_at_ones, bit_at_set_same, bit_at_set_other, bit_at_above, bit_at-zero}
use Rattle.ghost_rows.proofs.LowestBit.{IsLowestOf, lowest_of, bit_up_to, bit_behind}
use Rattle.tn_types.specs.BitWords.{has_bit}
use Rattle.ghost_rows.specs.declared.slot_rows.Standing.{Standing}
use Rattle.ghost_rows.specs.Kept.{carrier_at, IsFresh, IsAbsorbed, IsCarried, IsRaised}
use Rattle.ghost_rows.specs.RowLists.{carrier_of, carriers_of, row_of}

-- ---- bits

one_of : (x y : ℕ) → x < 2 → y < 2 → eqb (max x y) 1 ≡ (eqb x 1 || eqb y 1)
one_of zero zero a b = refl
one_of zero (suc zero) a b = refl
one_of (suc zero) zero a b = refl
one_of (suc zero) (suc zero) a b = refl
one_of (suc (suc x)) y a b = absurd (omega arith)
one_of x (suc (suc y)) a b = absurd (omega arith)

both_of : (x y : ℕ) → x < 2 → y < 2 → eqb (min y (1 - x)) 1 ≡ (not (eqb x 1) && eqb y 1)
both_of zero zero a b = refl
both_of zero (suc zero) a b = refl
both_of (suc zero) zero a b = refl
both_of (suc zero) (suc zero) a b = refl
both_of (suc (suc x)) y a b = absurd (omega arith)
both_of x (suc (suc y)) a b = absurd (omega arith)

pub or_bit : (a b f : ℕ) → has_bit (bit_or a b) f ≡ (has_bit a f || has_bit b f)
or_bit a b f = ap (λ x. eqb x 1) (bit_at_or a b f) ∙ one_of (bit_at a f) (bit_at b f) (bit_at-lt a f) (bit_at-lt b f)

pub clear_bit : (due mask f : ℕ) → mask < 2 ^ 32 → f < 32 → has_bit (bit_and due (bit_not w32 mask)) f ≡ (not (has_bit mask f) && has_bit due f)
clear_bit due mask f lt le =
    ap (λ x. eqb x 1) (bit_at_and due (bit_not w32 mask) f) ∙ ap (λ x. eqb (min (bit_at due f) x) 1) (bit_at_not w32 mask f lt le)
    ∙ both_of (bit_at mask f) (bit_at due f) (bit_at-lt mask f) (bit_at-lt due f)

or_swap : (a b : Bool) → (a || b) ≡ (b || a)
or_swap true true = refl
or_swap true false = refl
or_swap false true = refl
or_swap false false = refl

pub absorb_bit : (due bits f : ℕ) → has_bit (bit_or due bits) f ≡ (has_bit bits f || has_bit due f)
absorb_bit due bits f = or_bit due bits f ∙ or_swap (has_bit due f) (has_bit bits f)

pub all_bits : (f : ℕ) → f < 16 → has_bit 65535 f ≡ true
all_bits f lt = ap (λ x. eqb x 1) (bit_at_ones 16 f lt)

pub set_same : (due k : ℕ) → k < 32 → has_bit (bit_or due (1 * 2 ^ k % 2 ^ 32)) k ≡ true
set_same due k lt = ap (λ x. eqb x 1) (bit_at_set_same w32 due k lt)

pub set_other : (due k f : ℕ) → k < 32 → f ≢ k → has_bit (bit_or due (1 * 2 ^ k % 2 ^ 32)) f ≡ has_bit due f
set_other due k f lt other = ap (λ x. eqb x 1) (bit_at_set_other w32 due k lt f other)

pub no_bit : (x f : ℕ) → x ≡ 0 → has_bit x f ≡ false
no_bit x f none = ap (λ n. has_bit n f) none ∙ ap (λ x. eqb x 1) (bit_at-zero f)

-- ---- the loops over fields

-- marked with the packet, but for the carriers of the fields that are left of the mask
pub record IsMarked (seq mask rest : ℕ) (old new : List ℕ) : Type 0 where
  pub carriers : (field : ℕ) → field < 16 → cond (has_bit rest field) seq (get_or new field 0) ≡ cond (has_bit mask field) seq (get_or old field 0)
  pub fields : length new ≡ 16

-- the bits of the fields below `count` that have this carrier
abbrev pub AreFound : (seq count : ℕ) → List ℕ → ℕ → Type 0
AreFound seq count kept bits = (field : ℕ) → field < 16 → has_bit bits field ≡ (eqb (get_or kept field 0) seq && ltb field count)

pub zeros : (f : ℕ) → ◌≡◌ {A = ℕ} (get_or (0 ∷ 0 ∷ 0 ∷ 0 ∷ 0 ∷ 0 ∷ 0 ∷ 0 ∷ 0 ∷ 0 ∷ 0 ∷ 0 ∷ 0 ∷ 0 ∷ 0 ∷ 0 ∷ []) f 0) 0
zeros f = go 16 f
  where
    some : ℕ → List ℕ
    some zero = []
    some (suc k) = 0 ∷ some k

    go : (k f : ℕ) → ◌≡◌ {A = ℕ} (get_or (some k) f 0) 0
    go zero f = refl
    go (suc k) zero = refl
    go (suc k) (suc f) = go k f

-- which fields come before the next count
up_same : (k : ℕ) → ltb k (k + 1) ≡ true
up_same k = grind (arith, nat_tests)

up_other : (f k : ℕ) → f ≢ k → ltb f k ≡ ltb f (k + 1)
up_other f k other = elim (cases_lt f k) [
  | inl lt ↦ grind (arith, nat_tests)
  | inr le ↦ let lt : k < f = omega arith in grind (arith, nat_tests)
]

and_true : (b : Bool) → b ≡ (b && true)
and_true true = refl
and_true false = refl

and_false : (b : Bool) → (b && false) ≡ false
and_false true = refl
and_false false = refl

module _ (seq k bits : ℕ) (kept : List ℕ) (h : AreFound seq k kept bits) (lt : k < 16) where
  pub found_here : get_or kept k 0 ≡ seq → AreFound seq (k + 1) kept (bit_or bits (1 * 2 ^ k % 2 ^ 32))
  found_here is f below = elim (cases_eq f k) [
    | inl same ↦
        let b : eqb (get_or kept f 0) seq ≡ true = let e : get_or kept f 0 ≡ seq = ap (λ i. get_or kept i 0) same ∙ is in grind (arith, nat_tests) in
        ap (has_bit (bit_or bits (1 * 2 ^ k % 2 ^ 32))) same ∙ set_same bits k (omega arith)
        ∙ sym (ap (λ (c : Bool). c && ltb f (k + 1)) b ∙ ap (λ (i : ℕ). ltb i (k + 1)) same ∙ up_same k)
    | inr other ↦ set_other bits k f (omega arith) other ∙ h f below ∙ ap (λ (c : Bool). eqb (get_or kept f 0) seq && c) (up_other f k other)
  ]

  pub found_not : get_or kept k 0 ≢ seq → AreFound seq (k + 1) kept bits
  found_not not_it f below = elim (cases_eq f k) [
    | inl same ↦
        let b : eqb (get_or kept f 0) seq ≡ false = let e : get_or kept f 0 ≢ seq = λ x. not_it (ap (λ i. get_or kept i 0) (sym same) ∙ x) in grind (arith, nat_tests) in
        h f below ∙ ap (λ (c : Bool). c && ltb f k) b ∙ sym (ap (λ (c : Bool). c && ltb f (k + 1)) b)
    | inr other ↦ h f below ∙ ap (λ (c : Bool). eqb (get_or kept f 0) seq && c) (up_other f k other)
  ]

pub found_none : (seq : ℕ) (kept : List ℕ) → AreFound seq 0 kept 0
found_none seq kept f below =
    let none : ltb f 0 ≡ false = grind (arith, nat_tests) in
    no_bit 0 f refl ∙ sym (ap (λ (c : Bool). eqb (get_or kept f 0) seq && c) none ∙ and_false (eqb (get_or kept f 0) seq))

pub found_all : (seq count : ℕ) (kept : List ℕ) (bits : ℕ) → 16 ≤ count → AreFound seq count kept bits → (f : ℕ) → f < 16 → has_bit bits f ≡ eqb (get_or kept f 0) seq
found_all seq count kept bits all h f lt =
    let b : ltb f count ≡ true = let under : f < count = omega arith in grind (arith, nat_tests) in
    h f lt ∙ ap (λ (c : Bool). eqb (get_or kept f 0) seq && c) b ∙ sym (and_true (eqb (get_or kept f 0) seq))

-- ---- the carriers of a mask

-- where a mask of all fields is laid over it, each field stays
pub of_fields : (mask f : ℕ) → f < 16 → has_bit (bit_and mask 65535) f ≡ has_bit mask f
of_fields mask f lt = ap (λ x. eqb x 1) (omega (arith, bit_at_and mask 65535 f, bit_at_ones 16 f lt, bit_at-lt mask f))

-- the carrier of the lowest field that is left is set
module _ (seq mask rest : ℕ) (old now : List ℕ) (some : 0 < rest) (small : rest < 2 ^ 16) (h : IsMarked seq mask rest old now) where
  lowest : IsLowestOf (trailing_zeros w32 rest) rest
  lowest = lowest_of rest some (omega arith)

  pub lowest_within : trailing_zeros w32 rest < 16
  lowest_within =
      let k = trailing_zeros w32 rest in
      elim (cases_lt k 16) [
        | inl lt ↦ lt
        | inr le ↦ absurd (omega (arith, lowest.set, bit_at_above rest 16 k small le))
      ]

  -- which of the others are left
  others_left : (f : ℕ) → f ≢ trailing_zeros w32 rest → has_bit (bit_and rest (rest - 1)) f ≡ has_bit rest f
  others_left f other =
      let k = trailing_zeros w32 rest in
      ap (λ x. eqb x 1) (elim (cases_lt k f) [
        | inl behind ↦ bit_behind k rest f lowest behind
        | inr before ↦ bit_up_to k rest f lowest before ∙ sym (lowest.below f (omega arith))
      ])

  pub marked_more : IsMarked seq mask (bit_and rest (rest - 1)) old (set now (trailing_zeros w32 rest) seq)
  marked_more =
      let k = trailing_zeros w32 rest in
      record {
        carriers = λ f lt. elim (cases_eq f k) [
          | inl same ↦
              let gone : has_bit (bit_and rest (rest - 1)) f ≡ false = ap (λ x. eqb x 1) (bit_up_to k rest f lowest (omega arith)) in
              let here : has_bit rest f ≡ true = ap (λ i. has_bit rest i) same ∙ ap (λ x. eqb x 1) lowest.set in
              let put : get_or (set now k seq) f 0 ≡ seq = ap (λ i. get_or (set now k seq) i 0) same ∙ get_or-set_same now k seq 0 (omega (arith, h.fields, lowest_within)) in
              ap (λ (b : Bool). cond b seq (get_or (set now k seq) f 0)) gone ∙ put
              ∙ ap (λ (b : Bool). cond b seq (get_or now f 0)) (sym here) ∙ h.carriers f lt
          | inr other ↦
              ap (λ (b : Bool). cond b seq (get_or (set now k seq) f 0)) (others_left f other)
              ∙ ap (λ (c : ℕ). cond (has_bit rest f) seq c) (get_or-set_other now k f seq 0 other) ∙ h.carriers f lt
        ];
        fields = length-set now k seq ∙ h.fields;
      }

-- none is left
pub marked_all : (seq mask rest : ℕ) (old new : List ℕ) → rest ≡ 0 → IsMarked seq mask rest old new
    → (f : ℕ) → f < 16 → get_or new f 0 ≡ cond (has_bit mask f) seq (get_or old f 0)
marked_all seq mask rest old new none h f lt = ap (λ (b : Bool). cond b seq (get_or new f 0)) (sym (no_bit rest f none)) ∙ h.carriers f lt

-- ---- one row

pub carrier_there : (s : Standing) (last : ℕ) (kept : List ℕ) (f : ℕ) → f < 16 → carrier_at (row_of s last kept) f ≡ carrier_of s.turn last kept f
unfolding carriers_of
carrier_there s last kept f lt = get_or-map-range_with_len (carrier_of s.turn last kept) 0 16 f f 0 lt (omega arith)

module _ (s : Standing) (last : ℕ) (kept : List ℕ) where
  pub fresh_row : s.due ≡ 65535 → last ≡ 0 → ((f : ℕ) → get_or kept f 0 ≡ 0) → IsFresh s.turn (row_of s last kept)
  fresh_row all none empty = record {
    due = λ f lt. ap (λ (d : ℕ). has_bit d f) all ∙ all_bits f lt;
    turn = refl;
    carriers = λ f lt. carrier_there s last kept f lt ∙ ap (λ (b : Bool). cond b s.turn (get_or kept f 0)) (no_bit last f none) ∙ empty f;
  }

  pub absorbed_row : (bits : ℕ) → IsAbsorbed bits (row_of s last kept) (row_of (record s { due = bit_or s.due bits }) last kept)
  absorbed_row bits = record { due = λ f lt. absorb_bit s.due bits f; turn = refl; carriers = λ f lt. refl }

  -- what the last packet carried and this one doesn't has been kept
  pub carried_row : (seq mask : ℕ) (new : List ℕ) → mask < 2 ^ 32 → ((f : ℕ) → f < 16 → get_or new f 0 ≡ cond (has_bit (bit_and last (bit_not w32 mask)) f) s.turn (get_or kept f 0))
      → IsCarried seq mask (row_of s last kept) (row_of (record { due = bit_and s.due (bit_not w32 mask); turn = seq }) mask new)
  carried_row seq mask new fits left = record {
    due = λ f lt. clear_bit s.due mask f fits (omega arith);
    turn = refl;
    carriers = λ f lt.
        carrier_there (record { due = bit_and s.due (bit_not w32 mask); turn = seq }) mask new f lt
        ∙ ap (λ (c : ℕ). cond (has_bit mask f) seq c) (left f lt ∙ ap (λ (b : Bool). cond b s.turn (get_or kept f 0)) (clear_bit last mask f fits (omega arith)))
        ∙ left_out (has_bit mask f) (has_bit last f) seq s.turn (get_or kept f 0)
        ∙ ap (λ (c : ℕ). cond (has_bit mask f) seq c) (sym (carrier_there s last kept f lt));
  }
    where
      left_out : (m l : Bool) (q t k : ℕ) → cond m q (cond (not m && l) t k) ≡ cond m q (cond l t k)
      left_out true l q t k = refl
      left_out false l q t k = refl

  pub raised_row : (seq again : ℕ) → ((f : ℕ) → f < 16 → has_bit again f ≡ eqb (carrier_of s.turn last kept f) seq)
      → IsRaised seq (row_of s last kept) (row_of (record s { due = bit_or s.due again }) last kept)
  raised_row seq again is = record {
    due = λ f lt. absorb_bit s.due again f ∙ ap (λ (b : Bool). b || has_bit s.due f) (is f lt ∙ ap (λ (c : ℕ). eqb c seq) (sym (carrier_there s last kept f lt)));
    turn = refl;
    carriers = λ f lt. refl;
  }

pub settled_row : (s : Standing) (last : ℕ) (kept : List ℕ) (f judged carrier : ℕ) → f < 16 → has_bit s.due f ≡ false → carrier_of s.turn last kept f ≡ carrier
    → leb carrier judged ≡ (not (has_bit s.due f) && not (ltb judged (carrier_at (row_of s last kept) f)))
settled_row s last kept f judged carrier lt off is =
    let order : leb carrier judged ≡ not (ltb judged carrier) = grind (arith, nat_tests) in
    order ∙ sym (ap (λ (b : Bool). not b && not (ltb judged (carrier_at (row_of s last kept) f))) off ∙ ap (λ (n : ℕ). not (ltb judged n)) (carrier_there s last kept f lt ∙ is))

-- ---- whose carrier a packet is

module _ (turn last seq : ℕ) (carriers : List ℕ) (kept : ℕ) (is : (f : ℕ) → f < 16 → has_bit kept f ≡ eqb (get_or carriers f 0) seq) (fits : last < 2 ^ 32) where
  kept_bit : (f : ℕ) → f < 16 → has_bit (bit_and kept (bit_not w32 last)) f ≡ (not (has_bit last f) && eqb (get_or carriers f 0) seq)
  kept_bit f lt = clear_bit kept last f fits (omega arith) ∙ ap (λ (b : Bool). not (has_bit last f) && b) (is f lt)

  pub last_here : turn ≡ seq → (f : ℕ) → f < 16 → has_bit (bit_or (bit_and kept (bit_not w32 last)) last) f ≡ eqb (carrier_of turn last carriers f) seq
  last_here here f lt =
      or_bit (bit_and kept (bit_not w32 last)) last f ∙ ap (λ (b : Bool). b || has_bit last f) (kept_bit f lt)
      ∙ either (has_bit last f) (get_or carriers f 0)
    where
      either : (l : Bool) (k : ℕ) → ((not l && eqb k seq) || l) ≡ eqb (cond l turn k) seq
      either true k = grind (arith, nat_tests)
      either false k = or_swap (eqb k seq) false

  pub last_not : turn ≢ seq → (f : ℕ) → f < 16 → has_bit (bit_and kept (bit_not w32 last)) f ≡ eqb (carrier_of turn last carriers f) seq
  last_not other f lt = kept_bit f lt ∙ either (has_bit last f) (get_or carriers f 0)
    where
      either : (l : Bool) (k : ℕ) → (not l && eqb k seq) ≡ eqb (cond l turn k) seq
      either true k = grind (arith, nat_tests)
      either false k = refl
