-- The bits of lines, word by word.
use Rattle.std.proofs.Common.{◌≡◌, ℕ, zero, suc, ◌+◌, ◌-◌, ◌*◌, ◌/◌, ◌%◌, ◌^◌, ◌<◌, ◌≤◌, Bool, true, false, cond, nat_eq, nat_lt, ◌&&◌, List, [], ◌∷◌, length, get_or, set, replicate, get_or-set_same, get_or-set_other, refl, sym, ap, ◌∙◌, arith, inl, inr, min, max, bit_and, bit_or}
use Rattle.std.specs.Int.{bit_at, bit_not, w64}
use Rattle.std.proofs.lemmas.Nat.{one_shl}
use Rattle.std.proofs.lemmas.Nat.Bits.{bit_at_and, bit_at_not, bit_at-lt, bit_at-zero, bit_at_set_same, bit_at_set_other, bit_at-pow_same, bit_at-pow_other}
use Rattle.std.proofs.lemmas.Bool.{cases_lt}
use Rattle.std.proofs.lemmas.Bool.Decides.{nat_tests, eqb_tells}
use Rattle.world_cells.specs.Lines.{has, is_before, IsAt, IsPut}

-- ---- one word

pub set_bit : (word place k : ℕ) → place < 64 → bit_at (bit_or word (1 * 2 ^ place % 2 ^ 64)) k ≡ cond (nat_eq k place) 1 (bit_at word k)
set_bit word place k l =
    elim (eqb_tells k place) [
      | inl w ↦ ap (bit_at (bit_or word (1 * 2 ^ place % 2 ^ 64))) w.1 ∙ bit_at_set_same w64 word place l ∙ sym (ap (λ b. cond b 1 (bit_at word k)) w.0)
      | inr w ↦ bit_at_set_other w64 word place l k w.1 ∙ sym (ap (λ b. cond b 1 (bit_at word k)) w.0)
    ]

pub clear_bit : (word place k : ℕ) → place < 64 → k < 64 → bit_at (bit_and word (bit_not w64 (1 * 2 ^ place % 2 ^ 64))) k ≡ cond (nat_eq k place) 0 (bit_at word k)
clear_bit word place k l m =
    let one : 1 * 2 ^ place % 2 ^ 64 ≡ 2 ^ place = one_shl place 64 l in
    let below : 2 ^ place < 2 ^ 64 = omega (arith, one) in
    let both = bit_at_and word (bit_not w64 (2 ^ place)) k in
    let turned = bit_at_not w64 (2 ^ place) k below m in
    let few = bit_at-lt word k in
    rw one (elim (eqb_tells k place) [
      | inl w ↦
          let here : bit_at (2 ^ place) k ≡ 1 = ap (bit_at (2 ^ place)) w.1 ∙ bit_at-pow_same place in
          let none : bit_at (bit_and word (bit_not w64 (2 ^ place))) k ≡ 0 = omega (arith, both, turned, here) in
          none ∙ sym (ap (λ b. cond b 0 (bit_at word k)) w.0)
      | inr w ↦
          let there : bit_at (2 ^ place) k ≡ 0 = bit_at-pow_other place k w.1 in
          let same : bit_at (bit_and word (bit_not w64 (2 ^ place))) k ≡ bit_at word k = omega (arith, both, turned, there, few) in
          same ∙ sym (ap (λ b. cond b 0 (bit_at word k)) w.0)
    ])

-- ---- all words

abbrev pub zeros : ℕ → List ℕ
zeros many = replicate many 0

none_at : (many j : ℕ) → get_or (zeros many) j 0 ≡ 0
none_at zero j = refl
none_at (suc many) zero = refl
none_at (suc many) (suc j) = none_at many j

pub no_bits : (words : List ℕ) (many line n : ℕ) → words ≡ zeros many → has words line n ≡ 0
no_bits words many line n e = rw (e, none_at many (line * 16 + n / 64)) (bit_at-zero (n % 64))

-- the lines behind one and before another have the object's bits, the others are as they were
abbrev pub IsPutIn : ℕ → ℕ → ℕ → ℕ → List ℕ → List ℕ → Type 0
IsPutIn lo to number at old new =
    (line n : ℕ) → line ≤ 16 → n < 1024 → has new line n ≡ cond (nat_lt lo line && nat_lt line to) (cond (nat_eq n number) (is_before line at) (has old line n)) (has old line n)

pub put_none : (lo number at : ℕ) (words : List ℕ) → IsPutIn lo (lo + 1) number at words words
put_none lo number at words = λ line n l m. let t : (nat_lt lo line && nat_lt line (lo + 1)) ≡ false = grind (arith, nat_tests) in rw t refl

both_behind : (line from to : ℕ) → max from to < line → is_before line from ≡ is_before line to
both_behind line from to l =
    let a : nat_lt from line ≡ true = grind (arith, nat_tests) in
    let b : nat_lt to line ≡ true = grind (arith, nat_tests) in
    rw (a, b) refl

both_before : (line from to : ℕ) → line ≤ min from to → is_before line from ≡ is_before line to
both_before line from to l =
    let a : nat_lt from line ≡ false = grind (arith, nat_tests) in
    let b : nat_lt to line ≡ false = grind (arith, nat_tests) in
    rw (a, b) refl

outside : (line from to : ℕ) → (nat_lt (min from to) line && nat_lt line (max from to + 1)) ≡ false → is_before line from ≡ is_before line to
outside line from to e =
    elim (cases_lt (min from to) line) [
      | inr before ↦ both_before line from to before
      | inl behind ↦ elim (cases_lt (max from to) line) [
        | inl past ↦ both_behind line from to past
        | inr within ↦
            let t : (nat_lt (min from to) line && nat_lt line (max from to + 1)) ≡ true = grind (arith, nat_tests) in
            absurd (let f = sym e ∙ t in cc)
      ]
    ]

put_by : (b : Bool) (number from to : ℕ) (old new : List ℕ) (line n : ℕ) → (nat_lt (min from to) line && nat_lt line (max from to + 1)) ≡ b → has old line number ≡ is_before line from → has new line n ≡ cond b (cond (nat_eq n number) (is_before line to) (has old line n)) (has old line n) → has new line n ≡ cond (nat_eq n number) (is_before line to) (has old line n)
put_by true number from to old new line n e at h = h
put_by false number from to old new line n e at h =
    h ∙ elim (eqb_tells n number) [
      | inl w ↦
          let here : has old line n ≡ is_before line to = ap (has old line) w.1 ∙ at ∙ outside line from to e in
          here ∙ sym (ap (λ b. cond b (is_before line to) (has old line n)) w.0)
      | inr w ↦ sym (ap (λ b. cond b (is_before line to) (has old line n)) w.0)
    ]

pub put_all : (number from to : ℕ) (old new : List ℕ) → IsAt number from old → IsPutIn (min from to) (max from to + 1) number to old new → IsPut number to old new
put_all number from to old new at h = λ line n l m.
    put_by (nat_lt (min from to) line && nat_lt line (max from to + 1)) number from to old new line n refl (at line l) (h line n l m)

-- the word of one end, with the object's bit
abbrev pub IsWordPut : ℕ → ℕ → ℕ → ℕ → Type 0
IsWordPut place bit old new = (k : ℕ) → k < 64 → bit_at new k ≡ cond (nat_eq k place) bit (bit_at old k)

abbrev index : ℕ → ℕ → ℕ
index line n = line * 16 + n / 64

elsewhere : (line to n number : ℕ) → n < 1024 → number < 1024 → (line ≡ to → ⊥) → index line n ≡ index to number → ⊥
elsewhere line to n number l m other e = other (omega (arith, e))

same_place : (n number : ℕ) → n / 64 ≡ number / 64 → nat_eq (n % 64) (number % 64) ≡ nat_eq n number
same_place n number e = grind (arith, nat_tests)

other_block : (n number : ℕ) → (n / 64 ≡ number / 64 → ⊥) → nat_eq n number ≡ false
other_block n number e = elim (eqb_tells n number) [
  | inl w ↦ absurd (e (ap (λ k. k / 64) w.1))
  | inr w ↦ w.0
]

pub put_more : (lo to number at word : ℕ) (old now : List ℕ) → lo < to → to < 17 → number < 1024 → length now ≡ 272 → IsPutIn lo to number at old now → IsWordPut (number % 64) (is_before to at) (get_or now (index to number) 0) word → IsPutIn lo (to + 1) number at old (set now (index to number) word)
put_more lo to number at word old now low l m many h put = λ line n ll lm.
    let next = set now (index to number) word in
    let within : index to number < length now = omega (arith, l, m, many) in
    elim (eqb_tells line to) [
      | inr w ↦
          let kept : get_or next (index line n) 0 ≡ get_or now (index line n) 0 = get_or-set_other now (index to number) (index line n) word 0 (elsewhere line to n number lm m w.1) in
          let other = w.1 in
          let tests : (nat_lt lo line && nat_lt line (to + 1)) ≡ (nat_lt lo line && nat_lt line to) = grind (arith, nat_tests) in
          ap (λ x. bit_at x (n % 64)) kept ∙ h line n ll lm
          ∙ sym (ap (λ b. cond b (cond (nat_eq n number) (is_before line at) (has old line n)) (has old line n)) tests)
      | inl w ↦
          let e = w.1 in
          let before : (nat_lt lo line && nat_lt line to) ≡ false = grind (arith, nat_tests) in
          let after : (nat_lt lo line && nat_lt line (to + 1)) ≡ true = grind (arith, nat_tests) in
          let was : has now line n ≡ has old line n = h line n ll lm ∙ ap (λ b. cond b (cond (nat_eq n number) (is_before line at) (has old line n)) (has old line n)) before in
          let goal_is : has next line n ≡ cond (nat_eq n number) (is_before line at) (has old line n) = elim (eqb_tells (n / 64) (number / 64)) [
            | inl v ↦
                let same : index line n ≡ index to number = omega (arith, e, v.1) in
                let got : get_or next (index line n) 0 ≡ word = ap (λ j. get_or next j 0) same ∙ get_or-set_same now (index to number) word 0 within in
                let there : bit_at (get_or now (index to number) 0) (n % 64) ≡ has old line n = ap (λ j. bit_at (get_or now j 0) (n % 64)) (sym same) ∙ was in
                ap (λ x. bit_at x (n % 64)) got ∙ put (n % 64) (omega arith)
                ∙ ap (λ x. cond (nat_eq (n % 64) (number % 64)) (is_before to at) x) there
                ∙ ap (λ b. cond b (is_before to at) (has old line n)) (same_place n number v.1)
                ∙ ap (λ j. cond (nat_eq n number) (is_before j at) (has old line n)) (sym e)
            | inr v ↦
                let other = v.1 in
                let apart : index line n ≡ index to number → ⊥ = λ f. other (omega (arith, e, f)) in
                let kept : get_or next (index line n) 0 ≡ get_or now (index line n) 0 = get_or-set_other now (index to number) (index line n) word 0 apart in
                ap (λ x. bit_at x (n % 64)) kept ∙ was ∙ sym (ap (λ b. cond b (is_before line at) (has old line n)) (other_block n number other))
          ] in
          goal_is ∙ sym (ap (λ b. cond b (cond (nat_eq n number) (is_before line at) (has old line n)) (has old line n)) after)
    ]

-- ---- what lies between two lines

pub same_default : (words : List ℕ) (i d : ℕ) → i < length words → get_or words i d ≡ get_or words i 0
same_default [] i d l = absurd (omega arith)
same_default (w ∷ words) zero d l = refl
same_default (w ∷ words) (suc i) d l = same_default words i d (omega arith)

pub has_word : (words : List ℕ) (line word k x d : ℕ) → length words ≡ 272 → word < 16 → line ≤ 16 → k < 64 → x ≡ get_or words (line * 16 + word) d → bit_at x k ≡ has words line (64 * word + k)
has_word words line word k x d many lw ll lk e =
    let block : (64 * word + k) / 64 ≡ word = omega (arith, lk) in
    let place : (64 * word + k) % 64 ≡ k = omega (arith, lk) in
    let within : line * 16 + word < length words = omega (arith, many, lw, ll) in
    rw (block, place) (ap (λ w. bit_at w k) (e ∙ same_default words (line * 16 + word) d within))

pub apart_bits : (word other k : ℕ) → other < 2 ^ 64 → k < 64 → bit_at (bit_and word (bit_not w64 other)) k ≡ min (bit_at word k) (1 - bit_at other k)
apart_bits word other k l m = bit_at_and word (bit_not w64 other) k ∙ ap (min (bit_at word k)) (bit_at_not w64 other k l m)
