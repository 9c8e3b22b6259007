use Rattle.std.proofs.Common.{rules, subst}
use Rattle.pace.specs.Pacing.{Pacing}
use Rattle.pace.specs.Waiting.{IsWaitOf}
use Rattle.tribes_link.proofs.rates.tribes_rate_wait.Goals as goal

pub returns-in-Ok-Some-clause-told : goal.returns-in-Ok-Some-clause-told
returns-in-Ok-Some-clause-told c = λ is.
    let told : IsWaitOf c.in-Some.kept c.args.bytes c.args.now c.in-Ok-Some.found = search rules in
    subst (λ (p : Pacing). IsWaitOf p c.args.bytes c.args.now c.in-Ok-Some.found) c.in-Some.ensures.value told
