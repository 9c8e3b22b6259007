use Rattle.std.proofs.Common.{◌≡◌, map, length}
use Rattle.std.specs.List.{range_with_len}
use Rattle.relay_model.specs.Items.{shown_at}
use Rattle.relay_spectator.proofs.watch.values_of.Given as goal

abbrev pub invariant-loop-field : goal.invariant-loop-field
invariant-loop-field l = record {
  values : l.values ≡ map (shown_at l.copies.kinds l.copy) (range_with_len 0 l.field);
  long : length l.values ≡ l.field;
}
