use Rattle.std.proofs.Common.{◌≡◌, ◌++◌, drop}
use Rattle.packet_text.specs.Brief.{briefs_of}
use Rattle.packet_text.proofs.brief.push_briefs.Given as goal

abbrev pub invariant-loop-place : goal.invariant-loop-place
invariant-loop-place l = l.out ++ briefs_of l.kinds (drop l.place l.parts) ≡ l.fn.out ++ briefs_of l.kinds l.parts
