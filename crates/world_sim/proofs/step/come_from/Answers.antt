use Rattle.std.proofs.Common.{◌/◌, ◌∙◌, ap, sym}
use Rattle.world_rules.specs.declared.object.Place.{Place}
use Rattle.world_cells.proofs.Grids.{IsGrid-same}
use Rattle.world_sim.proofs.step.come_from.Goals as goal

pub returns-then-left-now-2 : goal.returns-then-left-now-2
returns-then-left-now-2 c = λ before behind was many from same grid.
    IsGrid-same c.args.cells.now before behind was c.args.object.now
    (same (c.if-left-now.true ∙ ap (λ (p : Place). p.x / 4096) c.requires.place) (c.if-left-now-2.true ∙ ap (λ (p : Place). p.y / 4096) c.requires.place)) grid

pub returns : goal.returns
returns c = λ before behind was many from same grid.
    c.shift.ensures before behind was c.args.object.now many from (sym c.spot.ensures) grid
