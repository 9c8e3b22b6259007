use Rattle.std.proofs.Common.{◌≡◌, take}
use Rattle.std.specs.String.{string_bytes}
use Rattle.match_script.proofs.Joining.{begun}
use Rattle.match_script.proofs.printer.text_of.Given as goal

abbrev pub invariant-loop-line : goal.invariant-loop-line
invariant-loop-line l = string_bytes l.out ≡ begun l.script.head (take l.line-index l.lines)
