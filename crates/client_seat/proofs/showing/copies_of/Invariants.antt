use Rattle.std.proofs.Common.{◌≡◌, List}
use Rattle.std.specs.Prelude.{filter_map}
use Rattle.ghost_model.specs.Words.{upto}
use Rattle.stream_manager.specs.Limits.{Terms}
use Rattle.own_lists.specs.pair_core.History.{PairStep}
use Rattle.own_lists.specs.pair_core.Stands.{StandsFor}
use Rattle.client_seat.specs.Told.{slot_told}
use Rattle.client_seat.proofs.showing.copies_of.Given as goal

abbrev pub invariant-loop-slot : goal.invariant-loop-slot
invariant-loop-slot l = (t : Terms) (steps : List PairStep) → StandsFor l.pair t steps → l.copies ≡ filter_map (slot_told t steps l.written) (upto l.slot)
