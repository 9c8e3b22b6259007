use Rattle.std.proofs.Common.{◌≡◌, ℕ, ◌<◌, List, length, take}
use Rattle.std.specs.Prelude.{None, slice_index_or}
use Rattle.tn_types.specs.declared.limits.TheConstants.{MAX_SLOTS}
use Rattle.stream_manager.specs.Limits.{Terms}
use Rattle.own_lists.specs.pair_core.History.{PairStep}
use Rattle.own_lists.specs.pair_core.Stands.{StandsFor}
use Rattle.client_seat.specs.Told.{holder_at}
use Rattle.client_seat.proofs.showing.holders.Given as goal

abbrev pub invariant-loop-d : goal.invariant-loop-d
invariant-loop-d l = record {
  long : length l.holders ≡ MAX_SLOTS;
  held : (t : Terms) (steps : List PairStep) → StandsFor l.pair t steps → (at : ℕ) → at < MAX_SLOTS → slice_index_or l.holders at None ≡ holder_at t steps (take l.d-index l.written) at;
}
