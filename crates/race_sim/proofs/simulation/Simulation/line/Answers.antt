use Rattle.std.proofs.Common.{◌≡◌, ◌∙◌, ℕ, List, ap, sym, subst}
use Rattle.std.specs.Prelude.{OnOk}
use Rattle.match_script.specs.declared.types.BodyLine.{BodyLine}
use Rattle.match_script.specs.declared.types.BodyLine.TheVariants as script
use Rattle.race_sim.specs.Simulating.{Does}
use Rattle.race_sim.proofs.simulation.Simulation.line.Goals as goal

pub returns-in-Tick-clause-does : goal.returns-in-Tick-clause-does
returns-in-Tick-clause-does g c = subst (λ (line : BodyLine). OnOk c.tick.result (Does line c.args.self.now c.tick.new.self)) (sym c.in-Tick.is) c.tick.ensures.does

pub returns-in-Scan-clause-does : goal.returns-in-Scan-clause-does
returns-in-Scan-clause-does g c = subst (λ (line : BodyLine). OnOk c.scan.result (Does line c.args.self.now c.scan.new.self)) (sym c.in-Scan.is) c.scan.ensures.does

pub returns-in-Post-clause-does : goal.returns-in-Post-clause-does
returns-in-Post-clause-does g c =
    let line : script.Post c.in-Post.client c.in-Post.class c.payload.result ≡ c.args.line.now =
    ap (λ (payload : List ℕ). script.Post c.in-Post.client c.in-Post.class payload) c.payload.ensures ∙ sym c.in-Post.is in
    subst (λ (l : BodyLine). OnOk c.post.result (Does l c.args.self.now c.post.new.self)) line c.post.ensures.does
