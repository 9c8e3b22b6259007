use Rattle.std.proofs.Common.{◌<◌, length, set, subst, sym}
use Rattle.std.specs.Prelude.{OnOk}
use Rattle.match_script.specs.declared.types.BodyLine.TheVariants as script
use Rattle.race_sim.specs.Simulating.{SimulationState, Does}
use Rattle.race_sim.proofs.Doing.{posted_by}
use Rattle.race_sim.proofs.simulation.Simulation.post.Goals as goal

pub returns-clause-does : goal.returns-clause-does
returns-clause-does g c =
    let s = c.self.inside in
    let old : SimulationState = record { world = s.world; seat = s.seat; ports = s.ports.items; values = s.values; moves = s.moves } in
    let new : SimulationState = record old { ports = set s.ports.items c.args.client c.post.new.self } in
    let there : c.args.client < length s.ports.items = subst (λ (z : SimulationState). c.args.client < length z.ports) (sym c.self.view_is) c.requires.may.fits.0 in
    subst (λ (z : SimulationState). OnOk c.post.result (Does (script.Post c.args.client c.args.class c.args.payload) z new)) c.self.view_is
    (posted_by c.post.result old c.args.client c.args.class c.args.payload c.index_mut.result.now c.post.new.self there c.index_mut.ensures.value c.post.ensures.given c.post.ensures.scope c.post.ensures.taken)
