use Rattle.pace.specs.Pacing.{Came, pacing_from}
use Rattle.tribes_link.proofs.Joined.{does_from}
use Rattle.tribes_link.proofs.rates.tribes_rate_came.Goals as goal

pub returns-in-Ok-clause-told : goal.returns-in-Ok-clause-told
returns-in-Ok-clause-told c = λ is.
    does_from (pacing_from c.args.rate.now) c.in-Some.kept c.came.new.self (pacing_from c.parts.result) (Came c.args.now)
    c.in-Some.ensures.value c.parts.ensures c.in-Ok.ensures.log
