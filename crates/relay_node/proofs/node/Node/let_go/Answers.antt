use Rattle.std.proofs.Common.{◌<◌, length, sym, subst, arith}
use Rattle.relay_node.specs.Node.{NodeState, Stands}
use Rattle.relay_node.proofs.Relaying.{given_back}
use Rattle.relay_node.proofs.node.Node.let_go.Goals as goal

pub returns-then-client-len-clause-stays : goal.returns-then-client-len-clause-stays
returns-then-client-len-clause-stays c past stands =
    let n : NodeState = record { relay = c.self.inside.relay; game = c.self.inside.game; board = c.self.inside.board; spectators = c.self.inside.spectators.items } in
    let before : Stands n past = subst (λ (x : NodeState). Stands x past) (sym c.self.view_is) stands in
    let lt : c.in-Packed.client < length n.spectators = omega (arith, c.if-client-len.true, c.len.ensures) in
    given_back n past before c.in-Packed.client c.index_mut.result.now c.give_back.new.self c.index_mut.ensures.value lt c.give_back.ensures
