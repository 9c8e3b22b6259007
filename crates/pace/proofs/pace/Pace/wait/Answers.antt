use Rattle.std.proofs.Common.{sym, subst, arith}
use Rattle.pace.specs.Pacing.{Pacing, StandsFor}
use Rattle.pace.specs.View.{pacing_of}
use Rattle.pace.specs.Waiting.{IsWait}
use Rattle.pace.proofs.Waits.{waits}
use Rattle.pace.proofs.pace.Pace.wait.Goals as goal

pub returns-clause-told : goal.returns-clause-told
returns-clause-told c log h =
    let p = pacing_of c.self.inside in
    let on = c.if-now-self.false in
    let few = c.if-bytes-self.false in
    let least = c.self.invariant.least in
    let some = c.self.invariant.terms.some in
    let saved = c.saved_up-saved.ensures.value in
    let wait = c.wait_for.ensures in
    subst (λ (q : Pacing). IsWait q.terms q.start c.args.bytes c.args.now c.wait_for.result log) c.self.view_is
    (rw (wait, saved)
    (waits p c.args.bytes c.args.now (omega (arith, on)) (omega (arith, some, least)) (omega (arith, few)) log
    (subst (λ (q : Pacing). StandsFor q log) (sym c.self.view_is) h)))
