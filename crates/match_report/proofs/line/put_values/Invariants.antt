use Rattle.std.proofs.Common.{◌≡◌, ◌++◌, take}
use Rattle.std.specs.List.{flat_map}
use Rattle.match_report.specs.Text.{value_text}
use Rattle.match_report.proofs.line.put_values.Given as goal

abbrev pub invariant-loop-value : goal.invariant-loop-value
invariant-loop-value l = record {
  line : l.text.line ≡ l.fn.text.line ++ flat_map value_text (take l.value-index l.values);
  before : l.text.before ≡ l.fn.text.before;
}
