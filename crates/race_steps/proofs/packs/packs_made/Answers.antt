use Rattle.std.proofs.Common.{arith, ap, sym, ◌∙◌, Some}
use Rattle.std.specs.Prelude.{Bool}
use Rattle.race_steps.specs.Asked.{is_pack_step}
use Rattle.race_steps.proofs.Counts.{passed_yes, passed_no}
use Rattle.race_steps.proofs.packs.packs_made.Goals as goal
use Rattle.race_steps.proofs.packs.packs_made.Goals.{then-is_pack_step, else-is_pack_step}

pub loop-i-preserved : goal.loop-i-preserved
loop-i-preserved c = elim c.if-is_pack_step.branch [
  | then-is_pack_step w ↦ rw w.count-is (omega (arith, c.loop-i.invariant.0), passed_yes is_pack_step c.args.steps.now.list c.loop-i.i c.loop-i.count c.loop-i.invariant.1 (c.step_at.ensures.pack ∙ ap (λ (b : Bool). Some b) (sym c.is_pack_step.ensures ∙ w.if-is_pack_step.true)))
  | else-is_pack_step w ↦ rw w.count-is (omega (arith, c.loop-i.invariant.0), passed_no is_pack_step c.args.steps.now.list c.loop-i.i c.loop-i.count c.loop-i.invariant.1 (c.step_at.ensures.pack ∙ ap (λ (b : Bool). Some b) (sym c.is_pack_step.ensures ∙ w.if-is_pack_step.false)))
]
