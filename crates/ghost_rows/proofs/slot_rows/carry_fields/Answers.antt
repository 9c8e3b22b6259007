use Rattle.std.proofs.Common.{◌-◌, ap, cond, Bool, get_or, arith, rules}
use Rattle.std.proofs.lemmas.Nat.{and_le_l, and_le_r}
use Rattle.ghost_rows.proofs.RowSteps.{of_fields, lowest_within, marked_more, marked_all}
use Rattle.ghost_rows.proofs.slot_rows.carry_fields.Goals as goal

pub fields-init : goal.fields-init
fields-init c = record {
  marked = record {
    carriers = λ f lt. ap (λ (b : Bool). cond b c.args.seq (get_or c.args.carriers.now f 0)) (of_fields c.args.mask f lt);
    fields = search rules;
  };
  small = omega (arith, and_le_r c.args.mask 65535);
}

pub bounds-carriers-rest : goal.bounds-carriers-rest
bounds-carriers-rest c =
    let s = c.fields in
    lowest_within c.args.seq c.args.mask s.rest c.args.carriers.now s.carriers (omega (arith, c.fields-test.true)) s.invariant.small s.invariant.marked

pub fields-preserved : goal.fields-preserved
fields-preserved c =
    let s = c.fields in
    record {
      marked = marked_more c.args.seq c.args.mask s.rest c.args.carriers.now s.carriers (omega (arith, c.fields-test.true)) s.invariant.small s.invariant.marked;
      small = omega (arith, s.invariant.small, and_le_l s.rest (s.rest - 1));
    }

pub returns : goal.returns
returns c = marked_all c.args.seq c.args.mask c.fields.rest c.args.carriers.now c.fields.carriers (omega (arith, c.fields-test.false)) c.fields.invariant.marked
