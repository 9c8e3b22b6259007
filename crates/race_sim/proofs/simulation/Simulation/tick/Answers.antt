use Rattle.std.proofs.Common.{length, ap, ◌∙◌}
use Rattle.match_script.specs.declared.types.BodyLine.TheVariants as script
use Rattle.race_sim.specs.Simulating.{SimulationState}
use Rattle.race_sim.proofs.Doing.{reseated_by, ticks_below, ticked_world}
use Rattle.race_sim.proofs.simulation.Simulation.tick.Goals as goal

pub tell-requires-clause-ticks : goal.tell-requires-clause-ticks
tell-requires-clause-ticks g c = ticks_below script.Tick c.args.self.now c.step.new.self c.in_ok-step.ensures.does c.requires.may

pub returns-clause-does : goal.returns-clause-does
returns-clause-does g c = reseated_by c.tell.result script.Tick c.args.self.now c.step.new.self c.tell.new.self c.in_ok-step.ensures.does c.tell.ensures.rest

pub tell-requires-clause-ticked : goal.tell-requires-clause-ticked
tell-requires-clause-ticked g c =
    ticked_world c.args.self.now c.step.new.self c.objects-had.result c.requires.may c.in_ok-step.ensures.next c.step.ensures.seat
    (c.objects-had.ensures.value ∙ ap (λ (s : SimulationState). length s.world.objects) c.self.view_is)
