use Rattle.std.proofs.Common.{drop}
use Rattle.std.specs.Prelude.{map}
use Rattle.std.specs.List.{filter_map}
use Rattle.race_messages.specs.Steps.{step_for}
use Rattle.race_steps.specs.Asked.{AreAllOrFirst, message_step, messages_taken}
use Rattle.race_steps.proofs.Walks.{IsLeftOf}
use Rattle.race_steps.proofs.messages.messages_are.Given as goal

abbrev pub invariant-loop-i : goal.invariant-loop-i
invariant-loop-i l = IsLeftOf (AreAllOrFirst l.is_full (messages_taken l.steps.list) (map step_for l.given)) l.is_full (filter_map message_step (drop l.i l.steps.list)) (map step_for l.given) l.k l.i
