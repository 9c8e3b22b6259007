use Rattle.std.proofs.Common.{refl}
use Rattle.script_input.specs.Reading.{seen}
use Rattle.tribes_program.proofs.serving.serve.Goals as goal

pub returns-in-Big-clause-done : goal.returns-in-Big-clause-done
returns-in-Big-clause-done g c =
    let held = g.S.Source.held c.args.source.now in
    let faults = g.S.Source.faults c.args.source.now in
    rw c.in-Big.is (c.top_big.ensures.serves (seen held held faults faults) (refl, refl), ((refl, refl), (refl, refl), refl))
