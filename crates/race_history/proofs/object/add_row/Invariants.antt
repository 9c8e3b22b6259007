use Rattle.std.proofs.Common.{◌≡◌, ◌≤◌, length, take}
use Rattle.tn_types.specs.declared.limits.TheConstants.{MAX_FIELDS}
use Rattle.race_history.specs.Growing.{with_row}
use Rattle.race_history.proofs.object.add_row.Given as goal

abbrev pub invariant-loop-i : goal.invariant-loop-i
invariant-loop-i l = record {
  value : l.fields.items ≡ with_row l.initial.fields.items (take l.i l.now);
  few : length l.fields.items ≤ MAX_FIELDS;
}
