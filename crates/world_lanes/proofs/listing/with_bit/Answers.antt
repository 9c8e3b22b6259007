use Rattle.std.proofs.Common.{arith}
use Rattle.world_lanes.proofs.Listed.{set_bit, few_more}
use Rattle.world_lanes.proofs.listing.with_bit.Goals as goal

pub returns-then-is_set-clause-bits : goal.returns-then-is_set-clause-bits
returns-then-is_set-clause-bits c = λ f. rw c.if-is_set.true (set_bit c.args.bits c.args.field f (omega (arith, c.requires.field)))

pub returns-then-is_set-clause-few : goal.returns-then-is_set-clause-few
returns-then-is_set-clause-few c = few_more c.args.bits c.args.field (omega (arith, c.requires.field)) c.requires.below
