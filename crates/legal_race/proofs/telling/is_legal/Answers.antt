use Rattle.std.proofs.Common.{◌∙◌}
use Rattle.race_history.specs.History.{worlds_from, world_after}
use Rattle.race_history.proofs.Histories.{determined}
use Rattle.race_course.specs.Course.{world_of}
use Rattle.legal_race.proofs.telling.is_legal.Goals as goal

pub returns-then-not-is_same : goal.returns-then-not-is_same
returns-then-not-is_same c = λ legal.
    c.if-not-is_same.ensures
    (c.history.ensures
    ∙ determined (worlds_from (world_of c.args.script.now) c.args.race.now.moves) (world_after (world_of c.args.script.now) c.args.race.now.moves) c.in_ok-course.course.values c.args.race.now.values c.in_ok-course.ensures.values legal.values)
