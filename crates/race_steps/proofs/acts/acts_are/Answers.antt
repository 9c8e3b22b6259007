use Rattle.std.proofs.Common.{arith, drop}
use Rattle.std.specs.List.{filter_map}
use Rattle.race_steps.specs.Asked.{act_done, act_asked}
use Rattle.race_steps.proofs.Walks.{passes_nothing, next_picked, other_picked, picked_ends, ends_first}
use Rattle.race_steps.proofs.acts.acts_are.Goals as goal
use Rattle.race_steps.proofs.acts.acts_are.Goals.{in-Nothing, in-Next}

pub returns-in-Other : goal.returns-in-Other
returns-in-Other c = other_picked _ c.args.is_full act_done c.args.steps.now.list (act_asked c.args.client) c.args.lines.now c.loop-i.k c.loop-i.i c.loop-i.invariant.1 c.loop-i.invariant.2 c.in-Other.ensures

pub loop-i-preserved : goal.loop-i-preserved
loop-i-preserved c = elim c.match-act_fit.branch [
  | in-Nothing w ↦ rw w.k-is (
    c.loop-i.invariant.0,
    c.loop-i.invariant.1,
    passes_nothing _ c.args.is_full act_done c.args.steps.now.list (filter_map (act_asked c.args.client) (drop c.loop-i.k c.args.lines.now)) c.loop-i.i c.loop-i.invariant.2 w.in-Nothing.ensures,
  )
  | in-Next w ↦ rw w.k-is (
    w.next_line-k-in-Next.ensures.within,
    w.next_line-k-in-Next.ensures.asked,
    next_picked _ c.args.is_full act_done c.args.steps.now.list (act_asked c.args.client) c.args.lines.now c.loop-i.k w.next_line-k-in-Next.result c.loop-i.i c.loop-i.invariant.2 w.in-Next.ensures w.next_line-k-in-Next.ensures.same,
  )
]

pub returns-then-is_full : goal.returns-then-is_full
returns-then-is_full c = ends_first _ c.args.is_full act_done c.args.steps.now.list (filter_map (act_asked c.args.client) (drop c.loop-i.k c.args.lines.now)) c.loop-i.i c.loop-i.invariant.2 (omega (arith, c.len-i-end.ensures.count, c.loop-i-test.false)) c.if-is_full.true

pub returns-else-is_full : goal.returns-else-is_full
returns-else-is_full c = picked_ends _ c.args.is_full act_done c.args.steps.now.list (act_asked c.args.client) c.args.lines.now c.loop-i.k c.loop-i.i c.loop-i.invariant.1 c.loop-i.invariant.2 (omega (arith, c.len-i-end.ensures.count, c.loop-i-test.false)) c.if-is_full.false
