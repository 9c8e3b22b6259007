use Rattle.std.proofs.Common.{refl, arith}
use Rattle.quantised_fields.proofs.Agreeing.{same_below}
use Rattle.quantised_fields.proofs.same.are_same_kinds.Goals as goal

pub returns : goal.returns
returns c = (λ _. same_below c.args.a.now c.args.b.now c.loop-k.k (omega (arith, c.learn_few.ensures, c.loop-k-test.false)) (omega (arith, c.learn_few-2.ensures, c.loop-k-test.false)) c.loop-k.invariant, λ _. refl)
