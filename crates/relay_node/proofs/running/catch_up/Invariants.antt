use Rattle.std.proofs.Common.{◌<◌, ◌+◌, List, length}
use Rattle.relay_script.specs.declared.types.PlacedLine.{PlacedLine}
use Rattle.relay_node.specs.Node.{Keeps}
use Rattle.relay_node.specs.Running.{IsAt, IsBehind}
use Rattle.relay_node.proofs.running.catch_up.Given as goal

abbrev pub invariant-loop-i : goal.invariant-loop-i
invariant-loop-i l = record {
  goes : (earlier : List PlacedLine) → IsAt l.fn.node l.script l.from earlier → IsBehind earlier l.from → l.to + length earlier + 2 < 4000000
      → IsAt l.node l.script l.i earlier;
  keeps : Keeps l.fn.node l.node;
}
