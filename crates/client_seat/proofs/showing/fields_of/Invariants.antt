use Rattle.std.proofs.Common.{◌≡◌, ◌≤◌, List, length}
use Rattle.std.specs.Prelude.{Some, filter_map}
use Rattle.ghost_model.specs.Words.{upto}
use Rattle.ghost_client.specs.declared.copy.GhostCopy.{GhostCopy}
use Rattle.ghost_client.specs.Copies.{copy_of}
use Rattle.stream_manager.specs.Limits.{Terms}
use Rattle.stream_manager.specs.Client.{ghosts_came}
use Rattle.own_lists.specs.pair_core.History.{PairStep, history}
use Rattle.own_lists.specs.pair_core.Stands.{StandsFor}
use Rattle.client_seat.specs.Told.{field_told}
use Rattle.client_seat.proofs.showing.fields_of.Given as goal

abbrev pub invariant-loop-field : goal.invariant-loop-field
invariant-loop-field l = record {
  few : length l.fields ≤ l.field;
  told : (t : Terms) (steps : List PairStep) → StandsFor l.pair t steps → (copy : GhostCopy) → copy_of (ghosts_came (history t steps).client) l.slot ≡ Some copy
      → l.fields ≡ filter_map (field_told t steps l.holder copy) (upto l.field);
}
