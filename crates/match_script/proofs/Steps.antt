-- The number of a word and the step that it says.
use Rattle.std.proofs.Common.{◌≡◌, ℕ, ◌-◌, ◌<◌, Bool, true, false, List, arith, Result, Ok, Err, nat_lt, nat_le, nat_eq, refl, ap, ◌∙◌}
use Rattle.std.specs.Prelude.{ℤ, pos, negsuc}
use Rattle.std.specs.Str.Parse.{digits_value}
use Rattle.match_script.specs.declared.types.ScriptFault.{ScriptFault}
use Rattle.match_script.specs.declared.types.ScriptFault.TheVariants.{BadNumber, OutOfRange}
use Rattle.match_script.specs.Words.{number, is_number}
use Rattle.tn_types.specs.Steps.{is_step}
use Rattle.match_script.specs.Steps.{GivesStride, Stride, stride_if, as_stride, ahead, back}

given : (z : ℤ) (within : Bool) (e : is_step z ≡ within) → within ≡ true → GivesStride (Ok z) (stride_if z within e)
given z true e t = (e, refl)
given z false e t = absurd (cc)

refused : (z : ℤ) (within : Bool) (e : is_step z ≡ within) → within ≡ false → stride_if z within e ≡ Err OutOfRange
refused z true e f = absurd (cc)
refused z false e f = refl

abbrev fault_of : ScriptFault → Result ℕ ScriptFault → Result Stride ScriptFault
fault_of other (Ok n) = Err other
fault_of other (Err e) = Err e

-- the parts of the number of a word
parts : (limit : ℕ) (word : List ℕ) (n : ℕ) → number limit word ≡ Ok n → (is_number word ≡ true) × (digits_value 10 word ≡ n) × (nat_lt n limit ≡ true)
unfolding number
parts limit word n e = (grind arith, grind arith, grind arith)

ahead_at : (word : List ℕ) (n : ℕ) → number 8 word ≡ Ok n → GivesStride (Ok (pos n)) (as_stride (ahead word))
unfolding ahead
ahead_at word n e = let p = parts 8 word n e in rw (p.0, p.1) (given (pos n) (nat_le n 7) refl (grind (arith, p.2)))

pub is_ahead : (word : List ℕ) (n : ℕ) (z : ℤ) → number 8 word ≡ Ok n → z ≡ pos n → GivesStride (Ok z) (as_stride (ahead word))
is_ahead word n z e same = rw same (ahead_at word n e)

-- a fault is the same whatever was to be read
kept : (a b : ScriptFault) → ◌≡◌ {A = Result ℕ ScriptFault} (Err a) (Err b) → ◌≡◌ {A = Result Stride ScriptFault} (Err a) (Err b)
kept a b e = ap (λ (r : Result ℕ ScriptFault). fault_of a r) e

ahead_fault : (v w : Bool) (word : List ℕ) (fault : ScriptFault) → is_number word ≡ v → nat_lt (digits_value 10 word) 8 ≡ w → number 8 word ≡ Err fault → as_stride (ahead word) ≡ Err fault
unfolding ahead number
ahead_fault false w word fault n l e = let k = rw n at e in rw n (kept BadNumber fault k)
ahead_fault true true word fault n l e = let k = rw (n, l) at e in absurd (cc)
ahead_fault true false word fault n l e =
    let k = rw (n, l) at e in
    rw n (refused (pos (digits_value 10 word)) (nat_le (digits_value 10 word) 7) refl (grind arith) ∙ kept OutOfRange fault k)

pub is_not_ahead : (word : List ℕ) (fault : ScriptFault) → number 8 word ≡ Err fault → as_stride (ahead word) ≡ Err fault
is_not_ahead word fault e = ahead_fault (is_number word) (nat_lt (digits_value 10 word) 8) word fault refl refl e

back_at : (word : List ℕ) (n : ℕ) → number 9 word ≡ Ok n → 0 < n → GivesStride (Ok (negsuc (n - 1))) (as_stride (back word))
unfolding back
back_at word n e some =
    let p = parts 9 word n e in
    let there : nat_eq n 0 ≡ false = grind arith in
    rw (p.0, p.1, there) (given (negsuc (n - 1)) (nat_le (n - 1) 7) refl (grind (arith, p.2)))

pub is_back : (word : List ℕ) (n : ℕ) (z : ℤ) → number 9 word ≡ Ok n → 0 < n → z ≡ negsuc (n - 1) → GivesStride (Ok z) (as_stride (back word))
is_back word n z e some same = rw same (back_at word n e some)

pub is_not_back_by_zero : (word : List ℕ) → number 9 word ≡ Ok 0 → as_stride (back word) ≡ Err BadNumber
unfolding back
is_not_back_by_zero word e = let p = parts 9 word 0 e in rw (p.0, p.1) refl

back_fault : (v w : Bool) (word : List ℕ) (fault : ScriptFault) → is_number word ≡ v → nat_lt (digits_value 10 word) 9 ≡ w → number 9 word ≡ Err fault → as_stride (back word) ≡ Err fault
unfolding back number
back_fault false w word fault n l e = let k = rw n at e in rw n (kept BadNumber fault k)
back_fault true true word fault n l e = let k = rw (n, l) at e in absurd (cc)
back_fault true false word fault n l e =
    let k = rw (n, l) at e in
    let some : nat_eq (digits_value 10 word) 0 ≡ false = grind arith in
    rw (n, some) (refused (negsuc (digits_value 10 word - 1)) (nat_le (digits_value 10 word - 1) 7) refl (grind arith) ∙ kept OutOfRange fault k)

pub is_not_back : (word : List ℕ) (fault : ScriptFault) → number 9 word ≡ Err fault → as_stride (back word) ≡ Err fault
is_not_back word fault e = back_fault (is_number word) (nat_lt (digits_value 10 word) 9) word fault refl refl e
