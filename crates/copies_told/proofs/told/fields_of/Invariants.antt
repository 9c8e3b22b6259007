use Rattle.std.proofs.Common.{◌≡◌, ◌≤◌, length}
use Rattle.std.specs.Prelude.{Some, filter_map}
use Rattle.ghost_model.specs.Words.{upto}
use Rattle.ghost_client.specs.declared.copy.GhostCopy.{GhostCopy}
use Rattle.ghost_client.specs.State.{copy_in}
use Rattle.copies_told.specs.Told.{field_told}
use Rattle.copies_told.proofs.told.fields_of.Given as goal

abbrev pub invariant-loop-field : goal.invariant-loop-field
invariant-loop-field l = record {
  few : length l.fields ≤ l.field;
  told : (copy : GhostCopy) → copy_in l.copies.slots l.slot ≡ Some copy → l.fields ≡ filter_map (field_told l.copies.kinds copy) (upto l.field);
}
