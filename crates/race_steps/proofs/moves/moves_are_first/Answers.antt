use Rattle.std.proofs.Common.{arith, true, refl, drop}
use Rattle.race_history.specs.Moves.{move_taken}
use Rattle.race_steps.proofs.Walks.{nothing_more, next_more, other_stops, ends_first}
use Rattle.race_steps.proofs.moves.moves_are_first.Goals as goal
use Rattle.race_steps.proofs.moves.moves_are_first.Goals.{in-Nothing, in-Next}

pub returns-in-Other : goal.returns-in-Other
returns-in-Other c = other_stops _ true (move_taken c.args.client) c.args.moves.now c.args.accepted.now c.loop-tick.k c.loop-tick.tick c.loop-tick.invariant c.in-Other.ensures

pub loop-tick-preserved : goal.loop-tick-preserved
loop-tick-preserved c = elim c.match-move_fit.branch [
  | in-Nothing w ↦ rw w.k-is (nothing_more _ true (move_taken c.args.client) c.args.moves.now c.args.accepted.now c.loop-tick.k c.loop-tick.tick c.loop-tick.invariant w.in-Nothing.ensures)
  | in-Next w ↦ rw w.k-is (next_more _ true (move_taken c.args.client) c.args.moves.now c.args.accepted.now c.loop-tick.k c.loop-tick.tick c.loop-tick.invariant w.in-Next.ensures)
]

pub returns : goal.returns
returns c = ends_first _ true (move_taken c.args.client) c.args.moves.now (drop c.loop-tick.k c.args.accepted.now) c.loop-tick.tick c.loop-tick.invariant.left (omega (arith, c.len-tick-end.ensures, c.loop-tick-test.false)) refl
