use Rattle.std.proofs.Common.{◌≡◌, ◌∙◌, true, false, sym, arith, take}
use Rattle.tn_types.specs.BitWords.{has_bit}
use Rattle.tribes_ends.proofs.Noted.{none-below, noted, passed}
use Rattle.tribes_ends.proofs.asking.ask_fields.Goals as goal
use Rattle.tribes_ends.proofs.asking.ask_fields.Goals.{then-has_field, else-has_field}

pub fields-init : goal.fields-init
fields-init c = record { told = none-below c.args.choice.now.n c.args.choice.now.mask (take c.args.before c.args.asks.now); few = omega arith }

pub fields-preserved : goal.fields-preserved
fields-preserved c = elim c.if-has_field.branch [
  | then-has_field w ↦
      let bit : has_bit c.args.choice.now.mask c.fields.field ≡ true = sym c.has_field.ensures ∙ w.if-has_field.true in
      let few = c.fields.invariant.few in
      record {
        told = rw (w.count-is, w.asks-is) (noted c.args.choice.now.n c.args.choice.now.mask c.fields.field c.fields.count c.fields.asks (take c.args.before c.args.asks.now) bit (omega arith) c.fields.invariant.told);
        few = omega (arith, w.count-is, few);
      }
  | else-has_field w ↦
      let bit : has_bit c.args.choice.now.mask c.fields.field ≡ false = sym c.has_field.ensures ∙ w.if-has_field.false in
      let few = c.fields.invariant.few in
      record {
        told = rw (w.count-is, w.asks-is) (passed c.args.choice.now.n c.args.choice.now.mask c.fields.field (take c.fields.count c.fields.asks) (take c.args.before c.args.asks.now) bit c.fields.invariant.told);
        few = omega (arith, w.count-is, few);
      }
]
