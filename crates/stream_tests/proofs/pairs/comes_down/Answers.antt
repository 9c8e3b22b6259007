use Rattle.std.proofs.Common.{◌∷◌}
use Rattle.pair_core.specs.History.{Down}
use Rattle.stream_tests.proofs.pairs.comes_down.Goals as goal

pub returns : goal.returns
returns c =
    let r = c.requires in record { terms = r.terms; steps = Down c.args.k ∷ r.steps; stands = c.step.ensures.stands r.terms r.steps r.stands }
