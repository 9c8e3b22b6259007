use Rattle.std.proofs.Common.{◌∷◌}
use Rattle.pair_core.specs.History.{Up}
use Rattle.stream_tests.proofs.pairs.comes_up.Goals as goal

pub returns : goal.returns
returns c =
    let r = c.requires in record { terms = r.terms; steps = Up c.args.k 32 ∷ r.steps; stands = c.step.ensures.stands r.terms r.steps r.stands }
