use Rattle.std.proofs.Common.{◌≡◌, ◌≤◌, ◌*◌, ◌^◌, take}
use Rattle.quantised_fields.specs.Kinds.{width_of}
use Rattle.quantised_fields.proofs.kind.is_too_wide.Given as goal

abbrev pub invariant-loop-field : goal.invariant-loop-field
invariant-loop-field l = record { value : l.width ≡ width_of (take l.field-index l.fields); bound : l.width ≤ 2 ^ 32 * l.field-index }
