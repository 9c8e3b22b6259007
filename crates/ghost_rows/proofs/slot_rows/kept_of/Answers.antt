use Rattle.std.proofs.Common.{◌+◌, arith, subst, sym}
use Rattle.ghost_rows.proofs.RowSteps.{AreFound, found_here, found_not, found_none, found_all}
use Rattle.ghost_rows.proofs.slot_rows.kept_of.Goals as goal
use Rattle.ghost_rows.proofs.slot_rows.kept_of.Goals.{then-carriers-field, else-carriers-field}

pub fields-init : goal.fields-init
fields-init c = found_none c.args.seq c.args.carriers.now

pub fields-preserved : goal.fields-preserved
fields-preserved c =
    let kept = c.args.carriers.now in
    elim c.if-carriers-field.branch [
      | then-carriers-field w ↦ subst (AreFound c.args.seq (c.fields.field + 1) kept) (sym w.bits-is) (found_here c.args.seq c.fields.field c.fields.bits kept c.fields.invariant (omega (arith, c.fields-test.true)) w.if-carriers-field.true)
      | else-carriers-field w ↦ subst (AreFound c.args.seq (c.fields.field + 1) kept) (sym w.bits-is) (found_not c.args.seq c.fields.field c.fields.bits kept c.fields.invariant (omega (arith, c.fields-test.true)) w.if-carriers-field.false)
    ]

pub returns : goal.returns
returns c = found_all c.args.seq c.fields.field c.args.carriers.now c.fields.bits (omega (arith, c.fields-test.false)) c.fields.invariant
