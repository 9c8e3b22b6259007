use Rattle.std.proofs.Common.{drop}
use Rattle.std.specs.Prelude.{true}
use Rattle.std.specs.List.{filter_map}
use Rattle.race_history.specs.Moves.{move_taken, moves_taken}
use Rattle.tn_types.specs.Prefix.{IsPrefixOf}
use Rattle.race_steps.proofs.Walks.{IsLeftOf}
use Rattle.race_steps.proofs.moves.moves_are_first.Given as goal

abbrev pub invariant-loop-tick : goal.invariant-loop-tick
invariant-loop-tick l = IsLeftOf (IsPrefixOf (moves_taken l.client l.moves) l.accepted) true (filter_map (move_taken l.client) (drop l.tick l.moves)) l.accepted l.k l.tick
