use Rattle.std.proofs.Common.{◌≡◌, ◌++◌, take}
use Rattle.std.specs.List.{flat_map}
use Rattle.match_report.specs.Text.{copy_text}
use Rattle.match_report.proofs.line.put_each_copy.Given as goal

abbrev pub invariant-loop-copy : goal.invariant-loop-copy
invariant-loop-copy l = record {
  line : l.text.line ≡ l.fn.text.line ++ flat_map copy_text (take l.copy-index l.copies);
  before : l.text.before ≡ l.fn.text.before;
}
