use Rattle.relay_node.specs.Node.{AreNew}
use Rattle.relay_node.proofs.node.new_spectators.Given as goal

abbrev pub invariant-loop-number : goal.invariant-loop-number
invariant-loop-number l = AreNew l.spectators.items l.head l.number
