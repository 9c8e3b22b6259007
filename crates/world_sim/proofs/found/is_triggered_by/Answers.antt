use Rattle.std.proofs.Common.{◌∙◌, sym, ap, Bool, ◌&&◌}
use Rattle.std.proofs.Math.Bool.{and-false}
use Rattle.world_rules.specs.Mines.{is_armed}
use Rattle.world_sim.proofs.Watching.{nobody_near}
use Rattle.world_sim.proofs.found.is_triggered_by.Goals as goal

pub returns-else-is_watched : goal.returns-else-is_watched
returns-else-is_watched c =
    let none = nobody_near c.args.standing.now c.args.watched.now c.args.o.now c.requires.watched c.requires.fits (sym c.is_watched.ensures ∙ c.if-is_watched.false) in
    c.if-is_watched.false ∙ sym (ap (λ (b : Bool). is_armed c.args.o.now && b) none ∙ and-false (is_armed c.args.o.now))
