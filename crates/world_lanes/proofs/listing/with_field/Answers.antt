use Rattle.std.proofs.Common.{◌≡◌, Bool, true, false, ◌&&◌, ◌||◌, ◌==◌, ◌∙◌, refl, ap, arith}
use Rattle.tn_types.specs.BitWords.{has_bit}
use Rattle.world_lanes.proofs.Listed.{set_bit, few_bits}
use Rattle.world_lanes.proofs.listing.with_field.Goals as goal

and_true : (b : Bool) → (b && true) ≡ b
and_true true = refl
and_true false = refl

pub returns-clause-few : goal.returns-clause-few
returns-clause-few c = few_bits c.args.bits c.args.field 16 (omega (arith, c.requires.field)) c.requires.field c.requires.bits

pub returns-clause-bits : goal.returns-clause-bits
returns-clause-bits c = λ f.
    set_bit c.args.bits c.args.field f (omega (arith, c.requires.field)) ∙ ap (λ (b : Bool). has_bit c.args.bits f || b) (and_true (f == c.args.field))
