use Rattle.std.proofs.Common.{arith}
use Rattle.world_sim.proofs.Glancing.{end_at, end_behind}
use Rattle.world_sim.proofs.found.players_end.Goals as goal

pub returns-then-not-is_player-clause-end : goal.returns-then-not-is_player-clause-end
returns-then-not-is_player-clause-end c = λ os e. end_at os c.args.glances.now c.loop-n.n _ c.is_player.result e c.is_player.ensures c.if-not-is_player.true

pub returns-clause-end : goal.returns-clause-end
returns-clause-end c = λ os e. end_behind os c.args.glances.now _ e (omega arith)
