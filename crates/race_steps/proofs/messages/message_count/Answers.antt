use Rattle.std.proofs.Common.{arith, ap, sym, ◌∙◌}
use Rattle.std.specs.Prelude.{is_some}
use Rattle.race_steps.specs.Asked.{message_step}
use Rattle.race_steps.proofs.Counts.{counted_yes, counted_no}
use Rattle.race_steps.proofs.messages.message_count.Goals as goal
use Rattle.race_steps.proofs.messages.message_count.Goals.{then-is_message, else-is_message}

pub loop-i-preserved : goal.loop-i-preserved
loop-i-preserved c = elim c.if-is_message.branch [
  | then-is_message w ↦ rw w.count-is (omega (arith, c.loop-i.invariant.0), counted_yes message_step c.args.steps.now.list c.loop-i.i c.loop-i.count c.loop-i.invariant.1 (ap is_some c.step_at.ensures.message ∙ sym c.is_message.ensures ∙ w.if-is_message.true))
  | else-is_message w ↦ rw w.count-is (omega (arith, c.loop-i.invariant.0), counted_no message_step c.args.steps.now.list c.loop-i.i c.loop-i.count c.loop-i.invariant.1 (ap is_some c.step_at.ensures.message ∙ sym c.is_message.ensures ∙ w.if-is_message.false))
]
