-- What a word says: a number in a range, a flag, a class, or bytes in hexadecimal digits, or else why it says none.
-- The words of a line are read from left to right, and the first that has a fault gives the line's.
use Rattle.std.specs.Prelude.{ℕ, ◌≡◌, ◌+◌, ◌/◌, ◌%◌, List, [], ◌∷◌, length, ◌==◌, ◌&&◌, ◌||◌, not, Bool, false, nat_le, nat_lt, if◌then◌else◌, codes, Result, Ok, Err, refl}
use Rattle.std.specs.List.{list_all}
use Rattle.std.specs.Str.{bytes_eq}
use Rattle.std.specs.Str.Parse.{digits_value}
use Rattle.hex.specs.Hex.{decode_of, is_hex_digit}
use Rattle.hex.specs.declared.error.FromHexError.{FromHexError}
use Rattle.match_script.specs.declared.types.ScriptFault.{ScriptFault}
use Rattle.tn_types.specs.declared.choices.Class.{Class}
use Rattle.tn_types.specs.declared.choices.Class.TheVariants.{Guaranteed, Loose}
use Rattle.match_script.specs.declared.types.ScriptFault.TheVariants.{UnknownWord, BadNumber, OutOfRange, BadHex}

-- the next word is read where this one has no fault
infixl 10 ◌>>=◌
abbrev pub ◌>>=◌ : {A B : Type 0} → Result A ScriptFault → (A → Result B ScriptFault) → Result B ScriptFault
(Ok x) >>= f = f x
(Err e) >>= f = Err e

abbrev pub is_digit : ℕ → Bool
is_digit b = nat_le 48 b && nat_le b 57

-- decimal digits, with no leading zero but in `0`
abbrev pub is_number : List ℕ → Bool
is_number [] = false
is_number (first ∷ rest) = if first == 48 then length rest == 0 else is_digit first && list_all is_digit rest

-- the number that a word says, which is to be below the limit
unfoldable pub number : ℕ → List ℕ → Result ℕ ScriptFault
number limit word =
    if not (is_number word) then Err BadNumber
    else if nat_lt (digits_value 10 word) limit then Ok (digits_value 10 word)
    else Err OutOfRange

-- the number that a word says, which is to lie between these two, both of them allowed
unfoldable pub number_from : ℕ → ℕ → List ℕ → Result ℕ ScriptFault
number_from least most word = do
  n ← number (most + 1) word
  if nat_lt n least then Err OutOfRange else Ok n

-- 0 or 1: whether it is 1
unfoldable pub flag : List ℕ → Result Bool ScriptFault
flag word = do
  n ← number 2 word
  Ok (n == 1)

-- the class of an event
unfoldable pub class_named : List ℕ → Result Class ScriptFault
class_named word =
    if bytes_eq word (codes "g") then Ok Guaranteed
    else if bytes_eq word (codes "u") then Ok Loose
    else Err UnknownWord

-- hexadecimal digits, an even number of them
abbrev pub is_hex : List ℕ → Bool
is_hex word = length word % 2 == 0 && list_all is_hex_digit word

abbrev pub decoded : Result (List ℕ) FromHexError → Result (List ℕ) ScriptFault
decoded (Ok bytes) = Ok bytes
decoded (Err e) = Err BadHex

-- `-` for no byte, or at least two digits, for at most so many bytes
unfoldable pub hex : ℕ → List ℕ → Result (List ℕ) ScriptFault
hex most word =
    if bytes_eq word (codes "-") then Ok []
    else if (length word == 0) || not (is_hex word) then Err BadHex
    else if nat_lt most (length word / 2) then Err OutOfRange
    else decoded (decode_of word)

seven : number 16 (codes "7") ≡ Ok 7
unfolding number
seven = refl

leading_zero : number 16 (codes "07") ≡ Err BadNumber
unfolding number
leading_zero = refl

no_minus : number 16 (codes "-7") ≡ Err BadNumber
unfolding number
no_minus = refl

many_digits : number 16 (codes "12345678901234567890123") ≡ Err OutOfRange
unfolding number
many_digits = refl

no_third_flag : flag (codes "2") ≡ Err OutOfRange
unfolding flag number
no_third_flag = refl

odd_digits : hex 24 (codes "616") ≡ Err BadHex
unfolding hex
odd_digits = refl
