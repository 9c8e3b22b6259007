use Rattle.std.proofs.Common.{sym, subst, Option}
use Rattle.world_rules.specs.declared.object.Object.{Object}
use Rattle.world_scope.specs.Candidates.{AreThose, either, is_near}
use Rattle.world_scope.proofs.candidates.add_near.Goals as goal

pub returns-in-Some : goal.returns-in-Some
returns-in-Some c = λ p those.
    subst (λ (player : Option Object). AreThose c.add_round.new.words (either p (is_near c.args.viewer.now.radius player)) c.args.world.now.objects) (sym c.in-Some.is)
    (c.add_round.ensures p those)
