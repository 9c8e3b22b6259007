use Rattle.std.proofs.Common.{subst}
use Rattle.ghost_scope.specs.Shown.{IsAlive}
use Rattle.stream_manager.specs.Stands.{ConnState}
use Rattle.stream_manager.proofs.Alive.{up-alive}
use Rattle.stream_manager.proofs.server.Conn.is_up.Goals as goal

pub returns-clause-alive : goal.returns-clause-alive
returns-clause-alive c =
    λ up. subst (λ (x : ConnState). IsAlive x.masks.periods c.args.n) c.self.view_is (up-alive c.self.inside.masks.periods c.args.n (c.is_up.ensures.0 up))
