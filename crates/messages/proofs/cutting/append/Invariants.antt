use Rattle.std.proofs.Common.{◌≡◌, ◌++◌, take}
use Rattle.messages.proofs.cutting.append.Given as goal

abbrev pub invariant-all : goal.invariant-all
invariant-all l = l.piece ≡ l.fn.piece ++ take l.byte-index l.bytes
