use Rattle.std.proofs.Common.{◌≡◌, drop}
use Rattle.std.specs.Prelude.{false}
use Rattle.std.specs.List.{filter_map}
use Rattle.race_steps.specs.Asked.{object_shown, objects_shown}
use Rattle.race_steps.proofs.Walks.{IsLeftOf}
use Rattle.race_steps.proofs.messages.objects_are.Given as goal

abbrev pub invariant-loop-message : goal.invariant-loop-message
invariant-loop-message l = IsLeftOf (objects_shown l.taken ≡ l.shown) false (filter_map object_shown (drop l.message-index l.taken)) l.shown l.n l.message-index
