use Rattle.std.proofs.Common.{subst}
use Rattle.wire_format.specs.declared.server.ServerBody.{ServerBody}
use Rattle.stream_manager.specs.ClientCalls.{TakesDown, client_of, made_whole}
use Rattle.stream_manager.specs.Stands.{ClientState}
use Rattle.stream_manager.proofs.taking.take_down.Goals as goal

-- the end as it was
abbrev before : goal.After-swap → ClientState
before c = client_of c.args.common.now c.args.moves.now c.args.blocks.now c.args.copies.now c.args.control.now c.args.took.now.value.ghosts

pub returns-clause-took : goal.returns-clause-took
returns-clause-took c =
    rw c.swap.ensures.y_after
    (subst (λ (p : ServerBody). TakesDown (before c) (made_whole (before c) p)
    (client_of c.take_body.new.common c.take_body.new.moves c.take_body.new.blocks c.take_body.new.copies c.take_body.new.control p.ghosts)) c.deref.ensures
    (c.take_body.ensures.took c.args.took.now.value.ghosts))
