use Rattle.std.proofs.Common.{drop}
use Rattle.std.specs.Prelude.{◌↔◌}
use Rattle.std.specs.List.{AllByRecursion}
use Rattle.race_history.specs.Moves.{HasClients}
use Rattle.race_history.proofs.moves.each_has.Given as goal

abbrev pub invariant-loop-row : goal.invariant-loop-row
invariant-loop-row l = AllByRecursion (HasClients l.clients) l.rows ↔ AllByRecursion (HasClients l.clients) (drop l.row-index l.rows)
