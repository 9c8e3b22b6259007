use Rattle.std.proofs.Common.{◌≡◌, ℕ, ◌<◌}
use Rattle.std.specs.Prelude.{slice_get}
use Rattle.ghost_client.specs.State.{field_value}
use Rattle.tribes_ends.proofs.client.read_values.Given as goal

abbrev pub invariant-fields : goal.invariant-fields
invariant-fields l = (k : ℕ) → k < l.field → slice_get l.place k ≡ field_value l.copies.kinds k l.found
