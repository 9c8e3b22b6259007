-- The lines and words of what was printed: each is read again.
use Rattle.std.proofs.Common.{◌≡◌, ℕ, zero, suc, ◌+◌, ◌-◌, ◌^◌, ◌<◌, ◌≤◌, ◌/◌, ◌%◌, Bool, true, false, ◌&&◌, List, [], ◌∷◌, ◌++◌, length, map, arith, Ok, nat_lt, nat_le, nat_eq, cond, refl, sym, ap, get_or}
use Rattle.std.specs.Prelude.{ℤ, pos, negsuc, codes}
use Rattle.std.specs.List.{list_all}
use Rattle.std.specs.Str.{bytes_eq}
use Rattle.std.specs.Str.Parse.{AllDigits}
use Rattle.std.specs.Char.{digit_value}
use Rattle.std.specs.Int.Digits.{digits_of}
use Rattle.std.specs.Fmt.{decimal, signed_decimal, digits}
use Rattle.std.proofs.lemmas.Fmt.{decimal_is_IsNumeral, decimal-digits_of}
use Rattle.std.proofs.lemmas.Int.Digits.{first_digits_of}
use Rattle.std.proofs.lemmas.Bool.{and_parts}
use Rattle.std.proofs.lemmas.List.Folds.{list_all-append}
use Rattle.std.proofs.lemmas.List.Sums.{list_all-from_AllPass}
use Rattle.hex.specs.Hex.{encode_lower, IsBytes, decode_of, is_hex_digit}
use Rattle.hex.proofs.HexLemmas.{decode_of-encode_lower, decode_of-ok}
use Rattle.tn_types.specs.Bytes.{AreBytes}
use Rattle.tn_types.specs.declared.choices.Class.{Class}
use Rattle.tn_types.specs.declared.choices.Class.TheVariants.{Guaranteed, Loose}
use Rattle.match_script.specs.Text.{lines_of, words_of, is_text, is_text_byte, spelled}
use Rattle.match_script.specs.Words.{number, number_from, flag, class_named, hex, is_number, is_digit}
use Rattle.tn_types.specs.Steps.{is_step}
use Rattle.match_script.specs.Steps.{GivesStride, step, signed, as_stride, back}
use Rattle.match_script.specs.Print.{hex_word, class_word, flag_word, joined}
use Rattle.match_script.proofs.Steps.{is_ahead, is_back}

abbrev pub is_word_byte : ℕ → Bool
is_word_byte b = nat_le 33 b && nat_le b 126

abbrev pub is_plain : List ℕ → Bool
is_plain word = list_all is_word_byte word

-- ---- lines and words of what was joined

line_front : (xs ys : List ℕ) → is_text xs ≡ true → lines_of (xs ++ 10 ∷ ys) ≡ xs ∷ lines_of ys
unfolding lines_of
line_front [] ys h = refl
line_front (x ∷ xs) ys h =
    let p = and_parts (is_text_byte x) (is_text xs) h in
    let other : nat_eq x 10 ≡ false = not_newline x p.0 in
    rw (other, line_front xs ys p.1) refl
  where
    not_newline : (x : ℕ) → is_text_byte x ≡ true → nat_eq x 10 ≡ false
    not_newline x h = grind arith

pub lines_joined : (ls : List (List ℕ)) → list_all is_text ls ≡ true → lines_of (joined ls) ≡ ls
unfolding lines_of joined
lines_joined [] h = refl
lines_joined (l ∷ ls) h =
    let p = and_parts (is_text l) (list_all is_text ls) h in
    rw (line_front l (joined ls) p.0, lines_joined ls p.1) refl

not_space : (x : ℕ) → is_word_byte x ≡ true → nat_eq x 32 ≡ false
not_space x h = grind arith

word_front : (xs ys : List ℕ) → is_plain xs ≡ true → words_of (xs ++ 32 ∷ ys) ≡ xs ∷ words_of ys
unfolding words_of
word_front [] ys h = refl
word_front (x ∷ xs) ys h =
    let p = and_parts (is_word_byte x) (is_plain xs) h in
    let other = not_space x p.0 in
    rw (other, word_front xs ys p.1) refl

word_last : (xs : List ℕ) → is_plain xs ≡ true → words_of xs ≡ xs ∷ []
unfolding words_of
word_last [] h = refl
word_last (x ∷ xs) h =
    let p = and_parts (is_word_byte x) (is_plain xs) h in
    let other = not_space x p.0 in
    rw (other, word_last xs p.1) refl

pub words_spelled : (w : List ℕ) (ws : List (List ℕ)) → list_all is_plain (w ∷ ws) ≡ true → words_of (spelled (w ∷ ws)) ≡ w ∷ ws
unfolding spelled
words_spelled w [] h = word_last w (and_parts (is_plain w) true h).0
words_spelled w (v ∷ ws) h =
    let p = and_parts (is_plain w) (list_all is_plain (v ∷ ws)) h in
    rw (word_front w (spelled (v ∷ ws)) p.0, words_spelled v ws p.1) refl

text_of_plain : (xs : List ℕ) → is_plain xs ≡ true → is_text xs ≡ true
text_of_plain [] h = refl
text_of_plain (x ∷ xs) h =
    let p = and_parts (is_word_byte x) (is_plain xs) h in
    let t = text_of_plain xs p.1 in
    let b : is_text_byte x ≡ true = one x p.0 in
    rw (b, t) refl
  where
    one : (x : ℕ) → is_word_byte x ≡ true → is_text_byte x ≡ true
    one x h = grind arith

pub text_spelled : (ws : List (List ℕ)) → list_all is_plain ws ≡ true → is_text (spelled ws) ≡ true
unfolding spelled
text_spelled [] h = refl
text_spelled (w ∷ []) h = text_of_plain w (and_parts (is_plain w) true h).0
text_spelled (w ∷ v ∷ ws) h =
    let p = and_parts (is_plain w) (list_all is_plain (v ∷ ws)) h in
    rw (list_all-append, text_of_plain w p.0, text_spelled (v ∷ ws) p.1) refl

-- ---- numbers

digits_plain : (ds : List ℕ) → list_all is_digit ds ≡ true → is_plain ds ≡ true
digits_plain [] h = refl
digits_plain (d ∷ ds) h =
    let p = and_parts (is_digit d) (list_all is_digit ds) h in
    let b : is_word_byte d ≡ true = one d p.0 in
    rw (b, digits_plain ds p.1) refl
  where
    one : (x : ℕ) → is_digit x ≡ true → is_word_byte x ≡ true
    one x h = grind arith

all_digits : (ds : List ℕ) → AllDigits 10 ds → list_all is_digit ds ≡ true
all_digits [] h = refl
all_digits (d ∷ ds) h =
    let b : is_digit d ≡ true = one d h.0 in
    rw (b, all_digits ds h.1) refl
  where
    one : (x : ℕ) → digit_value x < 10 → is_digit x ≡ true
    one x h = grind arith

pub decimal_digits : (n : ℕ) → n < 2 ^ 64 → list_all is_digit (decimal n) ≡ true
decimal_digits n h = all_digits (decimal n) (decimal_is_IsNumeral n h).0.1

no_zero_first : (ds : List ℕ) → list_all is_digit ds ≡ true → 0 < length ds → 48 < get_or ds 0 0 → is_number ds ≡ true
no_zero_first [] h some first = absurd (omega arith)
no_zero_first (d ∷ ds) h some first =
    let other : nat_eq d 48 ≡ false = one d first in
    rw other h
  where
    one : (d : ℕ) → 48 < d → nat_eq d 48 ≡ false
    one d h = grind arith

first_mapped : (ds : List ℕ) → 0 < get_or ds 0 0 → 48 < get_or (map (λ d. 48 + d) ds) 0 0
first_mapped [] h = absurd (omega arith)
first_mapped (d ∷ ds) h = omega arith

pub decimal_number : (n : ℕ) → n < 2 ^ 64 → is_number (decimal n) ≡ true
unfolding digits
decimal_number zero h = refl
decimal_number (suc n) h =
    let k = decimal_is_IsNumeral (suc n) h in
    let e = decimal-digits_of (suc n) (omega arith) h in
    let f = first_digits_of 10 (suc n) (omega arith) (omega arith) in
    no_zero_first (decimal (suc n)) (decimal_digits (suc n) h) k.0.0 (rw e (first_mapped (digits_of 10 (suc n)) f))

pub number_decimal : (limit n : ℕ) → n < limit → limit ≤ 2 ^ 64 → number limit (decimal n) ≡ Ok n
unfolding number
number_decimal limit n lt le =
    let h : n < 2 ^ 64 = omega arith in
    let below : nat_lt n limit ≡ true = grind arith in
    rw (decimal_number n h, (decimal_is_IsNumeral n h).1, below) refl

pub number_from_decimal : (least most n : ℕ) → least ≤ n → n ≤ most → most < 2 ^ 64 → number_from least most (decimal n) ≡ Ok n
unfolding number_from
number_from_decimal least most n low lt le =
    let above : nat_lt n least ≡ false = grind arith in
    rw (number_decimal (most + 1) n (omega arith) (omega arith), above) refl

pub plain_decimal : (n : ℕ) → n < 2 ^ 64 → is_plain (decimal n) ≡ true
plain_decimal n h = digits_plain (decimal n) (decimal_digits n h)

-- a number's word begins with no minus sign
number_shape : (ds : List ℕ) → is_number ds ≡ true → (d : ℕ) × (rest : List ℕ) × (ds ≡ d ∷ rest) × (nat_eq d 45 ≡ false)
number_shape [] h = absurd (cc)
number_shape (d ∷ rest) h = (d, rest, refl, one d (nat_eq (length rest) 0) (list_all is_digit rest) h)
  where
    one : (d : ℕ) (a b : Bool) → cond (nat_eq d 48) a (is_digit d && b) ≡ true → nat_eq d 45 ≡ false
    one d a b h = grind arith

step_ahead : (ds : List ℕ) (n : ℕ) → is_number ds ≡ true → number 8 ds ≡ Ok n → GivesStride (Ok (pos n)) (step ds)
unfolding step signed
step_ahead ds n h e =
    let s = number_shape ds h in
    let k = is_ahead ds n (pos n) e refl in
    rw (s.2, s.3) (rw s.2 at k)

backwards : (n : ℕ) → number 9 (decimal (suc n)) ≡ Ok (suc n) → GivesStride (Ok (negsuc n)) (as_stride (back (decimal (suc n))))
backwards n e =
    let less : suc n - 1 ≡ n = omega arith in
    is_back (decimal (suc n)) (suc n) (negsuc n) e (omega arith) (ap negsuc (sym less))

few : (limit n : ℕ) → nat_le n limit ≡ true → n ≤ limit
few limit n h = grind arith

-- a printed step is read again
pub step_back : (z : ℤ) → is_step z ≡ true → GivesStride (Ok z) (step (signed_decimal z))
unfolding step signed
step_back (pos n) h = step_ahead (decimal n) n (decimal_number n (omega (arith, few 7 n h))) (number_decimal 8 n (omega (arith, few 7 n h)) (omega arith))
step_back (negsuc n) h = backwards n (number_decimal 9 (suc n) (omega (arith, few 7 n h)) (omega arith))

pub plain_step : (z : ℤ) → is_step z ≡ true → is_plain (signed_decimal z) ≡ true
plain_step (pos n) h = plain_decimal n (omega (arith, few 7 n h))
plain_step (negsuc n) h = plain_decimal (suc n) (omega (arith, few 7 n h))

pub flag_back : (b : Bool) → flag (flag_word b) ≡ Ok b
unfolding flag number
flag_back true = refl
flag_back false = refl

pub plain_flag : (b : Bool) → is_plain (flag_word b) ≡ true
plain_flag true = refl
plain_flag false = refl

pub class_back : (c : Class) → class_named (class_word c) ≡ Ok c
unfolding class_named
class_back Guaranteed = refl
class_back Loose = refl

pub plain_class : (c : Class) → is_plain (class_word c) ≡ true
plain_class Guaranteed = refl
plain_class Loose = refl

-- ---- bytes

pub bytes_are : (bytes : List ℕ) → AreBytes bytes → IsBytes bytes
bytes_are [] h i = omega arith
bytes_are (b ∷ bytes) h zero = h.0
bytes_are (b ∷ bytes) h (suc i) = bytes_are bytes h.1 i

not_dash : (x y : ℕ) (rest : List ℕ) → bytes_eq (x ∷ y ∷ rest) (45 ∷ []) ≡ false
not_dash x y rest = grind arith

long_word : (word : List ℕ) → 2 ≤ length word → bytes_eq word (45 ∷ []) ≡ false
long_word [] h = absurd (omega arith)
long_word (x ∷ []) h = absurd (omega arith)
long_word (x ∷ y ∷ rest) h = not_dash x y rest

hex_read : (most : ℕ) (word bytes : List ℕ) → decode_of word ≡ Ok bytes → 1 ≤ length bytes → length bytes ≤ most → hex most word ≡ Ok bytes
unfolding hex
hex_read most word bytes e some few =
    let k = decode_of-ok word bytes e in
    let long = long_word word (omega (arith, k.2)) in
    let there : nat_eq (length word) 0 ≡ false = grind (arith, k.2) in
    let even : nat_eq (length word % 2) 0 ≡ true = grind (arith, k.0) in
    let digits = list_all-from_AllPass is_hex_digit word k.1 in
    let half : length word / 2 ≡ length bytes = omega (arith, k.2) in
    let fits : nat_lt most (length bytes) ≡ false = grind arith in
    rw (long, there, even, digits, half, fits, e) refl

no_hex : (most : ℕ) → hex most (codes "-") ≡ Ok []
unfolding hex
no_hex most = refl

pub hex_back : (most : ℕ) (bytes : List ℕ) → IsBytes bytes → length bytes ≤ most → hex most (hex_word bytes) ≡ Ok bytes
hex_back most [] h few = no_hex most
hex_back most (b ∷ bytes) h few = hex_read most (encode_lower (b ∷ bytes)) (b ∷ bytes) (decode_of-encode_lower (b ∷ bytes) h) (omega arith) few

hex_digits_plain : (word : List ℕ) → list_all is_hex_digit word ≡ true → is_plain word ≡ true
hex_digits_plain [] h = refl
hex_digits_plain (d ∷ word) h =
    let p = and_parts (is_hex_digit d) (list_all is_hex_digit word) h in
    let b : is_word_byte d ≡ true = one d p.0 in
    rw (b, hex_digits_plain word p.1) refl
  where
    one : (x : ℕ) → is_hex_digit x ≡ true → is_word_byte x ≡ true
    one x h = grind arith

pub plain_hex : (bytes : List ℕ) → IsBytes bytes → is_plain (hex_word bytes) ≡ true
plain_hex [] h = refl
plain_hex (b ∷ bytes) h =
    let k = decode_of-ok (encode_lower (b ∷ bytes)) (b ∷ bytes) (decode_of-encode_lower (b ∷ bytes) h) in
    hex_digits_plain (encode_lower (b ∷ bytes)) (list_all-from_AllPass is_hex_digit (encode_lower (b ∷ bytes)) k.1)
