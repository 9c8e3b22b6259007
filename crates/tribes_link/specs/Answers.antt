-- What an export answers. Where no end is behind its handle, it says so. Else it answers the code of what the call refuses, which is below
-- 0, or where nothing is refused a number from 0 on.
use Rattle.std.specs.Prelude.{◌≡◌, ◌⊎◌, refl, ℕ, ℤ, pos, negsuc, Bool, true, false, nat_le, Option, Some, None}
use Rattle.tribes_ends.specs.Codes.{code_of, why_of}
use Rattle.tribes_ends.specs.declared.link.Side.{Side}
use Rattle.tribes_ends.specs.declared.refusal.Refusal.{Refusal}
use Rattle.tribes_ends.specs.declared.why.Why.{Why}
use Rattle.tribes_link.specs.declared.answering.TheConstants.{NO_END, NO_MEMORY}
use Rattle.tribes_link.specs.declared.end.TheConstants.{OPEN}
use Rattle.tribes_link.specs.Behind.{Tells}

-- an answer from 0 to the greatest that the call has
abbrev pub is_answer : ℕ → ℤ → Bool
is_answer most (pos n) = nat_le n most
is_answer most (negsuc n) = false

-- the code of what is refused, or else an answer
abbrev pub Answered : ℕ → ℤ → Option Refusal → Type 0
Answered most code None = is_answer most code ≡ true
Answered most code (Some refusal) = code ≡ code_of refusal

-- by the state of the handle, and the end that is behind it
pub record AnswersBy (state : ℕ) (held : Option Side) (code : ℤ) (Holds : Side → Type 0) : Type 0 where
  pub none : (state ≡ OPEN → ⊥) → code ≡ NO_END
  pub some : state ≡ OPEN → Tells Holds held

-- what a call that makes an end answers, and the reason that it gives: what is refused, or else 0, if memory is to be had
abbrev pub IsMade : Option Refusal → ℤ → Why → Type 0
IsMade (Some refusal) code reason = (code ≡ code_of refusal) × (reason ≡ why_of refusal)
IsMade None code reason = (code ≡ pos 0) ⊎ (code ≡ NO_MEMORY)

-- ---- examples

one_is_an_answer : Answered 1 (pos 1) None ≡ (true ≡ true)
one_is_an_answer = refl

two_is_none : is_answer 1 (pos 2) ≡ false
two_is_none = refl
