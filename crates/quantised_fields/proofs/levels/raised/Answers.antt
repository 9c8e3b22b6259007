use Rattle.std.proofs.Common.{arith}
use Rattle.std.proofs.lemmas.Int.{ints}
use Rattle.quantised_fields.proofs.Specs.{shown_high}
use Rattle.quantised_fields.proofs.levels.raised.Goals as goal

pub overflow_add-result : goal.overflow_add-result
overflow_add-result c = let h = shown_high c.args.lo c.args.hi c.args.by c.requires.order c.requires.within in omega (arith, ints)
