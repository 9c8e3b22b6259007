use Rattle.std.proofs.Common.{subst}
use Rattle.tn_types.specs.Histories.{Answers}
use Rattle.pace.specs.Pacing.{Pacing, StandsFor, allowed_at}
use Rattle.tribes_link.proofs.rates.tribes_rate_allowed.Goals as goal

pub returns-in-Ok-clause-told : goal.returns-in-Ok-clause-told
returns-in-Ok-clause-told c = λ is.
    subst (λ (p : Pacing). Answers StandsFor p (λ log. allowed_at p.terms p.start log c.args.now) c.in-Ok.found) c.in-Some.ensures.value
    c.in-Ok.ensures.told
