-- What std reads as a number is what a script has as one, where it begins with no sign and no leading zero.
use Rattle.std.proofs.Common.{◌≡◌, ◌≢◌, ℕ, ◌+◌, ◌^◌, ◌<◌, ◌≤◌, Bool, true, false, ◌&&◌, List, [], ◌∷◌, length, get_or, nat_eq, nat_lt, cond, arith, refl, sym, ap, subst, ◌∙◌}
use Rattle.std.specs.Prelude.{Some, None}
use Rattle.std.specs.Fmt.{decimal}
use Rattle.std.specs.List.{list_all}
use Rattle.std.specs.Str.Parse.{AllDigits, IsNumeral, digits_value, without_leading_plus}
use Rattle.std.proofs.lemmas.Bool.{and_parts}
use Rattle.std.proofs.lemmas.Fmt.{decimal-digits_value}
use Rattle.std.proofs.lemmas.Str.{digit_value_digit}
use Rattle.std.proofs.lemmas.Str.Parse.{digit_from_value, without_leading_plus_none, numerals_by_value, tells_digits}
use Rattle.match_script.specs.Words.{number, number_from, is_number, is_digit}
use Rattle.commands.specs.Said.{number_said}

-- no sign, and no leading zero
pub record IsPlain (word : List ℕ) : Type 0 where
  pub sign : get_or word 0 0 ≢ 43
  pub zero : get_or word 0 0 ≡ 48 → length word ≡ 1

-- ---- digits

is_a_digit : (c : ℕ) → 48 ≤ c → c ≤ 57 → is_digit c ≡ true
is_a_digit c low high = grind arith

digits_all : (cs : List ℕ) → AllDigits 10 cs → list_all is_digit cs ≡ true
digits_all [] d = refl
digits_all (c ∷ cs) d =
    let k = digit_from_value c d.0 in
    rw (is_a_digit c k.0 k.1, digits_all cs d.1) refl

all_digits : (cs : List ℕ) → list_all is_digit cs ≡ true → AllDigits 10 cs
all_digits [] h = tt
all_digits (c ∷ cs) h =
    let p = and_parts (is_digit c) (list_all is_digit cs) h in
    let low : 48 ≤ c = grind (arith, p.0) in
    let high : c ≤ 57 = grind (arith, p.0) in
    (omega (arith, digit_value_digit c (low, high)), all_digits cs p.1)

pub numeral_number : (word : List ℕ) → IsPlain word → IsNumeral 10 word → is_number word ≡ true
numeral_number [] p n = absurd (omega (arith, n.0))
numeral_number (c ∷ cs) p n = by_first (nat_eq c 48) refl
  where
    by_first : (v : Bool) → nat_eq c 48 ≡ v → cond v (nat_eq (length cs) 0) (is_digit c && list_all is_digit cs) ≡ true
    by_first true e = grind (arith, p.zero)
    by_first false e = let k = digit_from_value c n.1.0 in rw (is_a_digit c k.0 k.1, digits_all cs n.1.1) refl

zero_alone : (b : ℕ) (word : List ℕ) → nat_eq b 48 ≡ true → cond (nat_eq b 48) (nat_eq (length word) 0) (is_digit b && list_all is_digit word) ≡ true → list_all is_digit (b ∷ word) ≡ true
zero_alone b [] e h = grind arith
zero_alone b (d ∷ word) e h = grind arith

by_first_digit : (v : Bool) (b : ℕ) (word : List ℕ) → nat_eq b 48 ≡ v → cond (nat_eq b 48) (nat_eq (length word) 0) (is_digit b && list_all is_digit word) ≡ true → list_all is_digit (b ∷ word) ≡ true
by_first_digit true b word e h = zero_alone b word e h
by_first_digit false b word e h = rw e at h

are_digits : (word : List ℕ) → is_number word ≡ true → list_all is_digit word ≡ true
are_digits [] h = refl
are_digits (b ∷ word) h = by_first_digit (nat_eq b 48) b word refl h

pub number_numeral : (word : List ℕ) → is_number word ≡ true → IsNumeral 10 word
number_numeral [] h = absurd cc
number_numeral (c ∷ cs) h = (omega arith, all_digits (c ∷ cs) (are_digits (c ∷ cs) h))

-- ---- a number that was read

pub none_said : (least most : ℕ) (word : List ℕ) → is_number word ≡ false → number_said least most word ≡ None
unfolding number_from number
none_said least most word h = rw h refl

said_by : (least most : ℕ) (word : List ℕ) → is_number word ≡ true → least ≤ digits_value 10 word → digits_value 10 word ≤ most → number_said least most word ≡ Some (digits_value 10 word)
unfolding number_from number
said_by least most word h low high =
    let below : nat_lt (digits_value 10 word) (most + 1) ≡ true = grind arith in
    let above : nat_lt (digits_value 10 word) least ≡ false = grind arith in
    rw (h, below, above) refl

too_small : (least most : ℕ) (word : List ℕ) → digits_value 10 word < least → number_said least most word ≡ None
unfolding number_from number
too_small least most word low = by_number (is_number word) refl (nat_lt (digits_value 10 word) (most + 1)) refl
  where
    below : nat_lt (digits_value 10 word) least ≡ true
    below = grind arith

    by_number : (v : Bool) → is_number word ≡ v → (u : Bool) → nat_lt (digits_value 10 word) (most + 1) ≡ u → number_said least most word ≡ None
    by_number false e u f = rw e refl
    by_number true e true f = rw (e, f, below) refl
    by_number true e false f = rw (e, f) refl

too_great : (least most : ℕ) (word : List ℕ) → most < digits_value 10 word → number_said least most word ≡ None
unfolding number_from number
too_great least most word high = by_number (is_number word) refl
  where
    above : nat_lt (digits_value 10 word) (most + 1) ≡ false
    above = grind arith

    by_number : (v : Bool) → is_number word ≡ v → number_said least most word ≡ None
    by_number false e = rw e refl
    by_number true e = rw (e, above) refl

-- the number that std reads in a text
abbrev pub IsRead : List ℕ → ℕ → Type 0
IsRead text n = (IsNumeral 10 text × (digits_value 10 text < 2 ^ 32)) × (n ≡ digits_value 10 text)

abbrev pub IsUnread : List ℕ → Type 0
IsUnread text = IsNumeral 10 text × (digits_value 10 text < 2 ^ 32) → ⊥

pub is_plain : (bytes word : List ℕ) → bytes ≡ word → (get_or bytes 0 0 ≡ 43 → ⊥) × (get_or bytes 0 0 ≡ 48 → length bytes ≡ 1) → IsPlain word
is_plain bytes word e p =
    let P : List ℕ → Type 0 = λ w. (get_or w 0 0 ≡ 43 → ⊥) × (get_or w 0 0 ≡ 48 → length w ≡ 1) in
    let q : (get_or word 0 0 ≡ 43 → ⊥) × (get_or word 0 0 ≡ 48 → length word ≡ 1) = subst P e p in
    record { sign = q.0; zero = q.1 }

module _ (least most : ℕ) (word : List ℕ) (p : IsPlain word) where
  same : without_leading_plus word ≡ word
  same = without_leading_plus_none word p.sign

  as_it_is : (n : ℕ) → IsRead (without_leading_plus word) n → IsRead word n
  as_it_is n h = let P : List ℕ → Type 0 = λ w. IsRead w n in subst P same h

  pub said : (n : ℕ) → IsRead (without_leading_plus word) n → least ≤ n → n ≤ most → Some n ≡ number_said least most word
  said n h low high =
      let r = as_it_is n h in
      ap (λ (m : ℕ). Some m) r.1 ∙ sym (said_by least most word (numeral_number word p r.0.0) (omega (arith, r.1)) (omega (arith, r.1)))

  pub said_small : (n : ℕ) → IsRead (without_leading_plus word) n → n < least → None ≡ number_said least most word
  said_small n h low = let r = as_it_is n h in sym (too_small least most word (omega (arith, r.1)))

  pub said_great : (n : ℕ) → IsRead (without_leading_plus word) n → most < n → None ≡ number_said least most word
  said_great n h high = let r = as_it_is n h in sym (too_great least most word (omega (arith, r.1)))

  pub unread : IsUnread (without_leading_plus word) → most < 2 ^ 32 → None ≡ number_said least most word
  unread h few = sym (by_number (is_number word) refl (nat_lt (digits_value 10 word) (2 ^ 32)) refl)
    where
      by_number : (v : Bool) → is_number word ≡ v → (u : Bool) → nat_lt (digits_value 10 word) (2 ^ 32) ≡ u → number_said least most word ≡ None
      by_number false q u f = none_said least most word q
      by_number true q false f = let m : most < digits_value 10 word = grind (arith, f) in too_great least most word m
      by_number true q true f =
          let m : digits_value 10 word < 2 ^ 32 = grind (arith, f) in
          let P : List ℕ → Type 0 = λ w. IsUnread w in
          absurd (subst P same h (number_numeral word q, m))

-- ---- a number that a word says

pub record Told (least most : ℕ) (word : List ℕ) (n : ℕ) : Type 0 where
  pub value : n ≡ digits_value 10 word
  pub written : word ≡ decimal n
  pub low : least ≤ n
  pub high : n ≤ most

-- what a word says is written so
pub told : (least most : ℕ) (word : List ℕ) (n : ℕ) → most < 2 ^ 64 → number_said least most word ≡ Some n → Told least most word n
unfolding number_from number
told least most word n small h = by_number (is_number word) refl (nat_lt (digits_value 10 word) (most + 1)) refl (nat_lt (digits_value 10 word) least) refl
  where
    lead : (w : List ℕ) → is_number w ≡ true → get_or w 0 0 ≡ 48 → length w ≡ 1
    lead [] q e = absurd cc
    lead (c ∷ cs) q e = grind arith

    by_number : (v : Bool) → is_number word ≡ v → (u : Bool) → nat_lt (digits_value 10 word) (most + 1) ≡ u → (t : Bool) → nat_lt (digits_value 10 word) least ≡ t → Told least most word n
    by_number false e u f t g = absurd (let k = rw e at h in cc)
    by_number true e false f t g = absurd (let k = rw (e, f) at h in cc)
    by_number true e true f true g = absurd (let k = rw (e, f, g) at h in cc)
    by_number true e true f false g =
        let k = rw (e, f, g) at h in
        let is : digits_value 10 word ≡ n = cc in
        let numeral = number_numeral word e in
        let back : decimal (digits_value 10 word) ≡ word = decimal-digits_value (numerals_by_value _ tells_digits) word numeral.1 numeral.0 (lead word e) (grind (arith, f)) in
        record { value = sym is; written = sym back ∙ ap decimal is; low = grind (arith, g, is); high = grind (arith, f, is) }
