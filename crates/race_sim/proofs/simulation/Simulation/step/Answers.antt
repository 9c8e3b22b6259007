use Rattle.std.proofs.Common.{◌≡◌, ◌∷◌, ◌++◌, [], List, subst}
use Rattle.std.specs.Prelude.{OnOk, Option}
use Rattle.tn_types.specs.declared.moves.MoveBits.{MoveBits}
use Rattle.match_script.specs.declared.types.BodyLine.TheVariants as script
use Rattle.world_sim.specs.Worlds.{next}
use Rattle.race_sim.specs.Simulating.{SimulationState, Does}
use Rattle.race_sim.proofs.Doing.{ticked_by}
use Rattle.race_sim.proofs.simulation.Simulation.step.Goals as goal

pub returns-clause-does : goal.returns-clause-does
returns-clause-does g c =
    let s = c.self.inside in
    let old : SimulationState = record { world = s.world; seat = s.seat; ports = s.ports.items; values = s.values; moves = s.moves } in
    let new : SimulationState = record { world = c.advance.new.world; seat = s.seat; ports = c.take_moves.new.ports.items; values = c.advance.new.values; moves = c.advance.new.moves } in
    let row : List (Option MoveBits) = c.take_moves.new.taken.items in
    let longer = subst (λ (r : List (Option MoveBits)). OnOk c.advance.result (c.advance.new.moves ≡ s.moves ++ r ∷ [])) c.deref.ensures.value c.advance.ensures.moves in
    let is = subst (λ (r : List (Option MoveBits)). OnOk c.advance.result (c.advance.new.world ≡ next s.world r)) c.deref.ensures.value c.advance.ensures.next in
    subst (λ (z : SimulationState). OnOk c.advance.result (Does script.Tick z new)) c.self.view_is
    (ticked_by c.advance.result old new row c.advance.ensures.ticks longer c.advance.ensures.world c.advance.ensures.values is c.in-Ok.ensures.each)
