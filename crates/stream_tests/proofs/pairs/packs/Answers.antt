use Rattle.std.proofs.Common.{[], ◌∷◌}
use Rattle.pair_core.specs.History.{Pack}
use Rattle.stream_tests.proofs.pairs.packs.Goals as goal

pub returns-then-given-values-2 : goal.returns-then-given-values-2
returns-then-given-values-2 c =
    let r = c.requires in
    let told = c.pack-answer-2.ensures.told in
    record { terms = r.terms; steps = Pack (c.in-Some.drain ∷ []) told.0 ∷ r.steps; stands = told.1.stands r.terms r.steps (c.prepare.ensures.stands r.terms r.steps r.stands) }

pub returns-else-given-values-2 : goal.returns-else-given-values-2
returns-else-given-values-2 c =
    let r = c.requires in
    let told = c.pack-answer-2.ensures.told in
    record { terms = r.terms; steps = Pack (c.in-Some.drain ∷ []) told.0 ∷ r.steps; stands = told.1.stands r.terms r.steps (c.prepare.ensures.stands r.terms r.steps r.stands) }
