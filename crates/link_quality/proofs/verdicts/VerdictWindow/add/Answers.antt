use Rattle.std.proofs.Common.{◌∙◌, ap, arith}
use Rattle.link_quality.specs.Window.{losses_of_option}
use Rattle.link_quality.proofs.Windows.{few_lost, was_counted, slid}
use Rattle.link_quality.proofs.verdicts.VerdictWindow.add.Goals as goal

pub overflow_add-self : goal.overflow_add-self
overflow_add-self c =
    let few = few_lost _ _ _ c.self.invariant in
    let one = c.loss_of.ensures.one in
    omega (arith, few, one)

pub overflow_sub-self : goal.overflow_sub-self
overflow_sub-self c =
    let fell = c.losses_of_option.ensures.count ∙ ap losses_of_option c.push_front-out.ensures.value in
    let one = c.loss_of.ensures.count in
    rw (fell, one) (was_counted c.args.verdict c.self.inside.verdicts.items c.self.inside.verdicts.capacity c.self.inside.lost c.self.invariant)

pub invariant_of-self : goal.invariant_of-self
invariant_of-self c =
    let fell = c.losses_of_option.ensures.count ∙ ap losses_of_option c.push_front-out.ensures.value in
    let one = c.loss_of.ensures.count in
    let items = c.push_front-out.ensures.items in
    rw (items, fell, one) (slid c.args.verdict c.self.inside.verdicts.items c.self.inside.verdicts.capacity c.self.inside.lost c.self.invariant)
