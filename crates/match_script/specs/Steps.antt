-- A step of a move, as a word says it: a number, or a minus sign and a number that isn't 0, from -8 to 7. A step is
-- kept with its range, since a move keeps that of both its steps.
use Rattle.std.specs.Prelude.{ℕ, ◌≡◌, ◌-◌, ℤ, pos, negsuc, List, [], ◌∷◌, ◌==◌, ◌||◌, not, Bool, true, false, if◌then◌else◌, codes, Result, Ok, Err, refl}
use Rattle.std.specs.Str.Parse.{digits_value}
use Rattle.tn_types.specs.Steps.{is_step}
use Rattle.match_script.specs.declared.types.ScriptFault.{ScriptFault}
use Rattle.match_script.specs.declared.types.ScriptFault.TheVariants.{BadNumber, OutOfRange}
use Rattle.match_script.specs.Words.{◌>>=◌, is_number}

-- a signed number without a sign
unfoldable pub ahead : List ℕ → Result ℤ ScriptFault
ahead word = if is_number word then Ok (pos (digits_value 10 word)) else Err BadNumber

-- a signed number, by the word behind its minus sign
unfoldable pub back : List ℕ → Result ℤ ScriptFault
back word =
    if not (is_number word) || (digits_value 10 word == 0) then Err BadNumber
    else Ok (negsuc (digits_value 10 word - 1))

-- the signed number that a word says
unfoldable pub signed : List ℕ → Result ℤ ScriptFault
signed [] = Err BadNumber
signed (first ∷ rest) = if first == 45 then back rest else ahead (first ∷ rest)

-- a step, with the test of its range
pub record Stride : Type 0 where
  pub value : ℤ
  pub within : is_step value ≡ true

-- the step of this number, where the test of its range says so
abbrev pub stride_if : (z : ℤ) (within : Bool) → is_step z ≡ within → Result Stride ScriptFault
stride_if z true e = Ok (record { value = z; within = e })
stride_if z false e = Err OutOfRange

-- the step of a signed number that was read
abbrev pub as_stride : Result ℤ ScriptFault → Result Stride ScriptFault
as_stride read = do
  z ← read
  stride_if z (is_step z) refl

-- the step that a word says
unfoldable pub step : List ℕ → Result Stride ScriptFault
step word = as_stride (signed word)

-- what a call gave is this step
abbrev pub GivesStride : Result ℤ ScriptFault → Result Stride ScriptFault → Type 0
GivesStride (Ok z) read = (within : is_step z ≡ true) × (read ≡ Ok (record { value = z; within = within }))
GivesStride (Err fault) read = read ≡ Err fault

eight_back : signed (codes "-8") ≡ Ok (negsuc 7)
unfolding signed back
eight_back = refl

no_zero_back : signed (codes "-0") ≡ Err BadNumber
unfolding signed back
no_zero_back = refl

eight_ahead : step (codes "8") ≡ Err OutOfRange
unfolding step signed ahead
eight_ahead = refl

far_back : step (codes "-99999999999") ≡ Err OutOfRange
unfolding step signed back
far_back = refl
