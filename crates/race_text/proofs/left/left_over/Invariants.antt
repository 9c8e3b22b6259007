use Rattle.std.proofs.Common.{◌≡◌, List, not, filter, map}
use Rattle.std.specs.List.{AllByRecursion}
use Rattle.ghost_model.specs.Words.{upto}
use Rattle.ghost_scope.specs.Shown.{IsUp}
use Rattle.stream_manager.specs.Limits.{Terms}
use Rattle.pair_core.specs.History.{PairStep}
use Rattle.pair_core.specs.Stands.{StandsFor}
use Rattle.pair_periods.specs.pair_steps.Steps.{is_hidden_in}
use Rattle.race_text.specs.Showing.{left_of}
use Rattle.race_text.proofs.left.left_over.Given as goal

abbrev pub invariant-loop-n : goal.invariant-loop-n
invariant-loop-n l = record {
  told : (t : Terms) (steps : List PairStep) → StandsFor l.pair t steps
      → l.left.items ≡ map (left_of l.words l.client l.objects) (filter (λ n. not (is_hidden_in steps n)) (upto l.n));
  up : AllByRecursion (λ d. IsUp l.pair.conn.masks.periods d.n) l.left.items;
}
