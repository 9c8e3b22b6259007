use Rattle.std.proofs.Common.{arith}
use Rattle.quantised_fields.proofs.Specs.{greatest_below}
use Rattle.level_scales.proofs.scale.Scale.of.Goals as goal

pub step-step-requires-clause-greatest : goal.step-step-requires-clause-greatest
step-step-requires-clause-greatest c = omega (arith, greatest_below c.args.spec.now c.requires, c.greatest-greatest.ensures)
