use Rattle.std.proofs.Common.{◌≡◌, ◌∙◌, ℕ, Some, ap, sym, subst}
use Rattle.std.specs.Prelude.{slice_get}
use Rattle.match_script.specs.declared.types.BodyLine.TheVariants as script
use Rattle.race_course.specs.Course.{MakingState, Follows}
use Rattle.race_course.proofs.Following.{ticked}
use Rattle.race_course.proofs.making.Making.tick.Goals as goal

pub returns : goal.returns
returns c =
    let there : slice_get c.args.moves.now c.self.inside.world.ticks ≡ Some c.in-Some.row.now = ap (λ (n : ℕ). slice_get c.args.moves.now n) (sym c.ticks.ensures) ∙ c.in-Some.ensures.value in
    let new : MakingState = record { world = c.tick.new.self; values = c.add.new.self; clients = c.self.inside.clients.items } in
    let old : MakingState = record { world = c.self.inside.world; values = c.self.inside.history; clients = c.self.inside.clients.items } in
    let follows : Follows old new c.args.moves.now script.Tick = ticked old c.args.moves.now c.in-Some.row.now c.tick.new.self c.add.new.self there c.in_ok-tick.ensures.ok c.in_ok-add.ensures.next in
    subst (λ (m : MakingState). Follows m new c.args.moves.now script.Tick) c.self.view_is follows
