use Rattle.std.proofs.Common.{arith, drop}
use Rattle.std.specs.Prelude.{map}
use Rattle.std.proofs.lemmas.List.{length-map}
use Rattle.race_messages.specs.Steps.{step_for}
use Rattle.race_steps.specs.Asked.{message_step}
use Rattle.race_steps.proofs.Walks.{nothing_more, next_more, other_stops, list_ends, ends_first}
use Rattle.race_steps.proofs.messages.messages_are.Goals as goal
use Rattle.race_steps.proofs.messages.messages_are.Goals.{in-Nothing, in-Next}

pub returns-in-Other : goal.returns-in-Other
returns-in-Other c = other_stops _ c.args.is_full message_step c.args.steps.now.list (map step_for c.args.given.now) c.loop-i.k c.loop-i.i c.loop-i.invariant c.in-Other.ensures

pub loop-i-preserved : goal.loop-i-preserved
loop-i-preserved c = elim c.match-message_fit.branch [
  | in-Nothing w ↦ rw w.k-is (nothing_more _ c.args.is_full message_step c.args.steps.now.list (map step_for c.args.given.now) c.loop-i.k c.loop-i.i c.loop-i.invariant w.in-Nothing.ensures)
  | in-Next w ↦ rw w.k-is (next_more _ c.args.is_full message_step c.args.steps.now.list (map step_for c.args.given.now) c.loop-i.k c.loop-i.i c.loop-i.invariant w.in-Next.ensures)
]

pub returns-then-is_full : goal.returns-then-is_full
returns-then-is_full c = ends_first _ c.args.is_full message_step c.args.steps.now.list (drop c.loop-i.k (map step_for c.args.given.now)) c.loop-i.i c.loop-i.invariant.left (omega (arith, c.len-i-end.ensures.count, c.loop-i-test.false)) c.if-is_full.true

pub returns-else-is_full : goal.returns-else-is_full
returns-else-is_full c = list_ends _ c.args.is_full message_step c.args.steps.now.list (map step_for c.args.given.now) _ c.loop-i.k c.loop-i.i c.loop-i.invariant (omega (arith, c.len-i-end.ensures.count, c.loop-i-test.false)) (length-map c.args.given.now step_for) c.if-is_full.false
