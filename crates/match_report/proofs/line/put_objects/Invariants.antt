use Rattle.std.proofs.Common.{◌≡◌, ◌++◌, take}
use Rattle.std.specs.List.{flat_map}
use Rattle.match_report.specs.Text.{object_text}
use Rattle.match_report.proofs.line.put_objects.Given as goal

abbrev pub invariant-loop-object : goal.invariant-loop-object
invariant-loop-object l = record {
  line : l.text.line ≡ l.fn.text.line ++ flat_map object_text (take l.object-index l.objects);
  before : l.text.before ≡ l.fn.text.before;
}
