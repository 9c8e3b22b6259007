use Rattle.std.proofs.Common.{◌≡◌, ◌++◌, take}
use Rattle.std.specs.String.{string_bytes}
use Rattle.match_script.proofs.Joining.{objects_text}
use Rattle.match_script.proofs.printer.put_objects.Given as goal

abbrev pub invariant-loop-object : goal.invariant-loop-object
invariant-loop-object l = string_bytes l.out ≡ string_bytes l.fn.out ++ objects_text (take l.object-index l.objects)
