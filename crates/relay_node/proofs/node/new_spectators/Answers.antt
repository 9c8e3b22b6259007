use Rattle.std.proofs.Common.{◌+◌, List, sym, subst}
use Rattle.relay_spectator.specs.declared.spectator.Spectator.{Spectator}
use Rattle.relay_node.specs.Node.{AreNew}
use Rattle.relay_node.proofs.Made.{new_more}
use Rattle.relay_node.proofs.node.new_spectators.Goals as goal

pub loop-number-preserved : goal.loop-number-preserved
loop-number-preserved c =
    subst (λ (l : List Spectator). AreNew l c.args.head.now (c.loop-number.number + 1)) (sym c.in-Ok.ensures.items)
    (new_more c.loop-number.spectators.items c.args.head.now c.loop-number.number c.in_ok-spectator.spectator c.loop-number.invariant c.in_ok-spectator.ensures)
