use Rattle.std.proofs.Common.{◌≡◌, ◌++◌, take}
use Rattle.std.specs.List.{flat_map}
use Rattle.match_report.specs.Text.{field_text}
use Rattle.match_report.proofs.line.put_fields.Given as goal

abbrev pub invariant-loop-field : goal.invariant-loop-field
invariant-loop-field l = record {
  line : l.text.line ≡ l.fn.text.line ++ flat_map field_text (take l.field-index l.fields);
  before : l.text.before ≡ l.fn.text.before;
}
