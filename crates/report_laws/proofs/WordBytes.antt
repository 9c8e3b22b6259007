-- Which bytes stand in the words of a `show` line: no space and no bar; and an `s` at the end of a field's word is its mark.
use Rattle.std.proofs.Common.{◌≡◌, ℕ, zero, suc, ◌/◌, ◌%◌, ◌<◌, ◌==◌, Bool, true, false, not, ◌&&◌, nat_lt, List, [], ◌∷◌, ◌++◌, take, reverse, if◌then◌else◌, Option, Some, None, refl, ap, ◌∙◌, arith, append-nil}
use Rattle.std.specs.Prelude.{ℤ, pos, negsuc, codes}
use Rattle.std.specs.List.{list_all}
use Rattle.std.specs.Str.{bytes_eq}
use Rattle.std.specs.Fmt.{decimal, signed_decimal, digits, digits_onto, digit_glyph}
use Rattle.std.proofs.lemmas.Bool.{and_parts, and_from}
use Rattle.std.proofs.lemmas.Bool.Decides.{nat_tests}
use Rattle.std.proofs.lemmas.List.{reverse-append}
use Rattle.std.proofs.lemmas.List.Folds.{list_all-append}
use Rattle.std.proofs.lemmas.Grind.{reverse_onto}
use Rattle.world_rules.specs.Kinds.{kind_word}
use Rattle.world_rules.proofs.KindWords.{of_kind_word}
use Rattle.match_report.specs.declared.copies.FieldTold.{FieldTold}
use Rattle.match_report.specs.Text.{control_word, settled_mark}
use Rattle.report_laws.specs.Shown.{is_bar, is_marked, field_word}

-- ---- numbers

module _ (test : ℕ → Bool) (digit : (d : ℕ) → d < 10 → test (digit_glyph false d) ≡ true) where
  first-passes : (n : ℕ) (acc : List ℕ) → list_all test acc ≡ true → list_all test (digit_glyph false (n % 10) ∷ acc) ≡ true
  first-passes n acc h = and_from (test (digit_glyph false (n % 10))) (list_all test acc) (digit (n % 10) (omega arith)) h

  digits-pass : (k n : ℕ) (acc : List ℕ) → list_all test acc ≡ true → list_all test (digits_onto k 10 false n acc) ≡ true
  digits-pass zero n acc h = h
  digits-pass (suc k) n acc h =
      go (n / 10 == 0) (first-passes n acc h) (digits-pass k (n / 10) (digit_glyph false (n % 10) ∷ acc) (first-passes n acc h))
    where
      go : (b : Bool) → list_all test (digit_glyph false (n % 10) ∷ acc) ≡ true
          → list_all test (digits_onto k 10 false (n / 10) (digit_glyph false (n % 10) ∷ acc)) ≡ true
          → list_all test (if b then digit_glyph false (n % 10) ∷ acc else digits_onto k 10 false (n / 10) (digit_glyph false (n % 10) ∷ acc)) ≡ true
      go true last more = last
      go false last more = more

  pub decimal_passes : (n : ℕ) → list_all test (decimal n) ≡ true
  unfolding digits
  decimal_passes n = digits-pass 64 n [] refl

  pub signed_passes : test 45 ≡ true → (value : ℤ) → list_all test (signed_decimal value) ≡ true
  signed_passes minus (pos n) = decimal_passes n
  signed_passes minus (negsuc n) = and_from (test 45) (list_all test (decimal (suc n))) minus (decimal_passes (suc n))

-- ---- neither a space nor a bar

abbrev pub is_inner : ℕ → Bool
is_inner b = not (b == 32) && not (b == 124)

abbrev pub Inner : List ℕ → Type 0
Inner word = list_all is_inner word ≡ true

inner-digit : (d : ℕ) → d < 10 → is_inner (digit_glyph false d) ≡ true
inner-digit d h =
    let small : nat_lt d 10 ≡ true = grind (arith, nat_tests) in
    rw small (grind (arith, nat_tests))

pub inner_number : (n : ℕ) → Inner (decimal n)
inner_number n = decimal_passes is_inner inner-digit n

inner-mark : (settled : Bool) → Inner (settled_mark settled)
inner-mark true = refl
inner-mark false = refl

pub inner_field : (f : FieldTold) → Inner (field_word f)
inner_field f =
    rw (list_all-append, signed_passes is_inner inner-digit refl f.value, inner-mark f.settled) refl

pub inner_kind : (kind : ℕ) → Inner (kind_word kind)
inner_kind kind = of_kind_word Inner refl refl refl refl refl refl refl kind

pub inner_control : (control : Option ℕ) → Inner (control_word control)
inner_control None = refl
inner_control (Some slot) = inner_number slot

one-bar : (a : ℕ) → is_inner a ≡ true → is_bar (a ∷ []) ≡ false
one-bar a h = grind (arith, nat_tests)

two-no-bar : (a b : ℕ) (word : List ℕ) → is_bar (a ∷ b ∷ word) ≡ false
two-no-bar a b word = grind (arith, nat_tests)

pub no_bar : (word : List ℕ) → Inner word → is_bar word ≡ false
no_bar [] h = refl
no_bar (a ∷ []) h = one-bar a (and_parts (is_inner a) true h).0
no_bar (a ∷ b ∷ word) h = two-no-bar a b word

-- ---- the mark

-- no `s`
abbrev is_other : ℕ → Bool
is_other b = not (b == 115)

other-digit : (d : ℕ) → d < 10 → is_other (digit_glyph false d) ≡ true
other-digit d h =
    let small : nat_lt d 10 ≡ true = grind (arith, nat_tests) in
    rw small (grind (arith, nat_tests))

reversed-passes : (test : ℕ → Bool) (xs : List ℕ) → list_all test xs ≡ true → list_all test (reverse xs) ≡ true
reversed-passes test [] h = refl
reversed-passes test (x ∷ xs) h =
    let p = and_parts (test x) (list_all test xs) h in
    let last : list_all test (x ∷ []) ≡ true = and_from (test x) true p.0 refl in
    ap (list_all test) (reverse_onto xs x []) ∙ list_all-append test (reverse xs) (x ∷ [])
    ∙ and_from (list_all test (reverse xs)) (list_all test (x ∷ [])) (reversed-passes test xs p.1) last

first-other : (a : ℕ) → is_other a ≡ true → bytes_eq (a ∷ []) (codes "s") ≡ false
first-other a h = grind (arith, nat_tests)

no-mark : (xs : List ℕ) → list_all is_other xs ≡ true → bytes_eq (take 1 xs) (codes "s") ≡ false
no-mark [] h = refl
no-mark (x ∷ xs) h = first-other x (and_parts (is_other x) (list_all is_other xs) h).0

pub marked : (value : ℤ) (settled : Bool) → is_marked (signed_decimal value ++ settled_mark settled) ≡ settled
marked value true = ap (λ xs. bytes_eq (take 1 xs) (codes "s")) (reverse-append (signed_decimal value) (codes "s"))
marked value false =
    ap is_marked (append-nil (signed_decimal value))
    ∙ no-mark (reverse (signed_decimal value))
    (reversed-passes is_other (signed_decimal value) (signed_passes is_other other-digit refl value))
