use Rattle.std.proofs.Common.{arith}
use Rattle.std.proofs.lemmas.Bool.Decides.{nat_tests}
use Rattle.world_scope.proofs.WholeWords.{near_levels, furthest_near}
use Rattle.world_scope.proofs.whole_words.has_levels.Goals as goal

pub returns-clause-levels : goal.returns-clause-levels
returns-clause-levels c = λ e.
    near_levels c.args.viewer.now c.of-rings.result c.args.places.now c.levels_of-furthest.new.levels c.levels_of-furthest.result c.of-rings.ensures c.requires.player c.levels_of-furthest.ensures.levels c.levels_of-furthest.ensures.furthest (grind (arith, nat_tests, e))

pub returns-clause-reached : goal.returns-clause-reached
returns-clause-reached c = λ near.
    let reached = furthest_near c.args.viewer.now c.of-rings.result c.args.places.now c.levels_of-furthest.result c.of-rings.ensures c.requires.player (omega (arith, c.levels_of-furthest.type_inv)) c.levels_of-furthest.ensures.least near in
    grind (arith, nat_tests, reached)
