use Rattle.std.proofs.Common.{◌∙◌, ap, arith, length}
use Rattle.std.specs.Option.{option_map}
use Rattle.std.specs.Result.{result_err}
use Rattle.tribes_ends.specs.declared.refusal.Refusal.TheVariants.{AtClient}
use Rattle.tribes_ends.proofs.Passing.{passes}
use Rattle.tribes_ends.proofs.client.arrive.Goals as goal

pub returns-in-Err-clause-refused : goal.returns-in-Err-clause-refused
returns-in-Err-clause-refused c = λ log s.
    ap (λ answer. option_map AtClient (result_err answer)) (c.in-Err.ensures.answer log s)
    ∙ passes _ _ (length c.args.client.now.common.receiver.ready) _ (omega arith) (omega (arith, c.waiting-count.ensures.count, c.if-count-gt0.false))
