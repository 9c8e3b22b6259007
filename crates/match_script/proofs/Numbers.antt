-- What is read is in its range; the digits one by one.
use Rattle.std.proofs.Common.{◌≡◌, ℕ, ◌+◌, ◌-◌, ◌*◌, ◌^◌, ◌<◌, ◌≤◌, true, List, length, take, drop, get_or, min, arith, Ok, refl}
use Rattle.std.specs.List.{list_all}
use Rattle.std.specs.Char.{digit_value}
use Rattle.std.specs.Str.Parse.{digits_value}
use Rattle.std.proofs.lemmas.Int.Digits.{digits_value_more}
use Rattle.std.proofs.lemmas.List.{drop_more}
use Rattle.match_script.specs.Words.{number, number_from, is_digit}

pub number_below : (limit : ℕ) (word : List ℕ) (n : ℕ) → number limit word ≡ Ok n → n < limit
unfolding number
number_below limit word n e = grind arith

digit_is : (b : ℕ) → is_digit b ≡ true → digit_value b ≡ b - 48
digit_is b h = grind arith

-- a digit more
pub digit_more : (word : List ℕ) (i : ℕ) → i < length word → is_digit (get_or word i 0) ≡ true → list_all is_digit (drop (i + 1) word) ≡ list_all is_digit (drop i word)
digit_more word i lt e = rw (drop_more word i 0 lt, e) refl

pub value_step : (word : List ℕ) (i v : ℕ) → is_digit (get_or word i 0) ≡ true → i < length word → v ≡ min (digits_value 10 (take i word)) (2 ^ 64 - 1) → min (min (v * 10) (2 ^ 64 - 1) + (get_or word i 0 - 48)) (2 ^ 64 - 1) ≡ min (digits_value 10 (take (i + 1) word)) (2 ^ 64 - 1)
value_step word i v h lt e =
    let d = digit_is (get_or word i 0) h in
    let m = digits_value_more 10 word i lt in
    rw (m, d) (omega arith)

pub number_from_fits : (least most : ℕ) (word : List ℕ) (n : ℕ) → number_from least most word ≡ Ok n → (least ≤ n) × (n ≤ most)
unfolding number_from number
number_from_fits least most word n e = (grind arith, grind arith)
