use Rattle.std.proofs.Common.{◌∙◌, arith}
use Rattle.match_engine.proofs.game.Game.new.Goals as goal

pub returns-clause-keeps : goal.returns-clause-keeps
returns-clause-keeps c all i d lt = c.in_ok-seats.ensures.keeps i d (omega (arith, lt, c.in_ok-seats.ensures.stands.0)) ∙ all
