-- A refusal of the call below is what is refused, where the tests before it find nothing.
use Rattle.std.proofs.Common.{◌≡◌, ℕ, ◌<◌, ◌≤◌, true, false, Option, Some, None, refl, arith}
use Rattle.std.specs.Prelude.{Ok, nat_lt, nat_eq}
use Rattle.std.specs.Option.{option_or}
use Rattle.std.proofs.lemmas.Bool.Decides.{nat_tests}
use Rattle.tribes_ends.specs.declared.refusal.Refusal.{Refusal}
use Rattle.tribes_ends.specs.declared.refusal.Refusal.TheVariants.{NoRoom}
use Rattle.tribes_ends.specs.Making.{IsMadeUnless}
use Rattle.tribes_ends.specs.Refusals.{length_refusal, room_refusal, waiting_refusal}

pub passes : (most n count : ℕ) (answer : Option Refusal) → n ≤ most → count ≡ 0 → answer ≡ option_or (length_refusal most n) (option_or (waiting_refusal count) answer)
passes most n count answer few none =
    let a : nat_lt most n ≡ false = grind (arith, nat_tests) in
    let b : nat_eq count 0 ≡ true = grind (arith, nat_tests) in
    rw (a, b) refl

pub roomy : (needed room : ℕ) → (room < needed → ⊥) → None ≡ room_refusal needed room
roomy needed room h = let a : nat_lt room needed ≡ false = grind (arith, nat_tests) in rw a refl

pub narrow : (needed room : ℕ) → room < needed → Some (NoRoom needed) ≡ room_refusal needed room
narrow needed room h = let a : nat_lt room needed ≡ true = grind (arith, nat_tests) in rw a refl

-- what was made was not refused
pub made-none : {T : Type 0} (o : Option Refusal) (x : T) → IsMadeUnless o (Ok x) → o ≡ None
made-none None x h = refl
made-none (Some r) x h = absurd (cc)
