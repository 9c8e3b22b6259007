-- What a call that makes an end answers, by what making it answered.
use Rattle.std.proofs.Common.{◌≡◌, ◌∙◌, ap, subst, Option, Some, None, inr}
use Rattle.std.specs.Prelude.{ℤ, pos, ◌⊎◌, Result, Ok, Err, OnOk, IfErr}
use Rattle.tribes_ends.specs.Codes.{code_of, why_of}
use Rattle.tribes_ends.specs.Making.{IsMadeUnless}
use Rattle.tribes_ends.specs.declared.refusal.Refusal.{Refusal}
use Rattle.tribes_ends.specs.declared.why.Why.{Why}
use Rattle.tribes_link.specs.declared.answering.TheConstants.{NO_MEMORY}
use Rattle.tribes_link.specs.Answers.{IsMade}

pub made-answers : {T : Type 0} (o : Option Refusal) (made : Result T Refusal) (code : ℤ) (reason : Why) → IsMadeUnless o made
    → OnOk made ((code ≡ pos 0) ⊎ (code ≡ NO_MEMORY)) → IfErr made (λ r. (code ≡ code_of r) × (reason ≡ why_of r)) → IsMade o code reason
made-answers None (Ok x) code reason unless ok err = ok
made-answers None (Err e) code reason unless ok err = inr (err.0 ∙ ap code_of unless)
made-answers (Some r) (Ok x) code reason unless ok err = absurd (cc)
made-answers (Some r) (Err e) code reason unless ok err =
    let same : e ≡ r = cc in
    subst (λ (x : Refusal). (code ≡ code_of x) × (reason ≡ why_of x)) same err
