use Rattle.std.proofs.Common.{◌≡◌, ◌++◌, drop}
use Rattle.std.specs.Prelude.{map}
use Rattle.packet_text.proofs.meanings.push_bytes.Given as goal

abbrev pub invariant-loop-part : goal.invariant-loop-part
invariant-loop-part l = l.out ++ map (λ q. q.value) (drop l.part-index l.parts) ≡ l.fn.out ++ map (λ q. q.value) l.parts
