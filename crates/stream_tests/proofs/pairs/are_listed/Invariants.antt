use Rattle.std.proofs.Common.{◌≡◌, ℕ, ◌<◌, List, Some, slice_get}
use Rattle.ghost_masks.specs.Plan.{kind_of}
use Rattle.ghost_model.specs.Legal.{IsUp}
use Rattle.stream_manager.specs.Server.{ServerEvent, ghost_log}
use Rattle.stream_manager.specs.Stands.{ConnStandsFor}
use Rattle.stream_tests.proofs.pairs.are_listed.Given as goal

abbrev pub invariant-periods : goal.invariant-periods
invariant-periods l = record {
  listed : (log : List ServerEvent) → ConnStandsFor l.conn log → (n : ℕ) → n < l.n → IsUp (ghost_log log) n → slice_get l.shown n ≡ Some (kind_of (ghost_log log) n);
}
