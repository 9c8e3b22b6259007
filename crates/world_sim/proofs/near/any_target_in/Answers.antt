use Rattle.std.proofs.Common.{◌≡◌, ◌∙◌}
use Rattle.world_cells.specs.Grid.{numbers}
use Rattle.world_cells.specs.Cells.{lies_in}
use Rattle.world_cells.proofs.Numbers.{all_there}
use Rattle.world_sim.proofs.Searches.{none_in}
use Rattle.world_sim.proofs.near.any_target_in.Goals as goal

pub any_target-requires : goal.any_target-requires
any_target-requires c =
    let e : c.cell.result.now ≡ numbers (lies_in c.args.cell) 0 c.args.objects.now = c.cell.ensures.value ∙ c.requires.exact c.args.cell c.ranges.cell.fits in
    record { there = all_there (lies_in c.args.cell) c.args.objects.now c.cell.result.now e }

pub returns-clause-none : goal.returns-clause-none
returns-clause-none c = λ missed.
    let e : c.cell.result.now ≡ numbers (lies_in c.args.cell) 0 c.args.objects.now = c.cell.ensures.value ∙ c.requires.exact c.args.cell c.ranges.cell.fits in
    none_in c.args.objects.now c.args.o.now c.cell.result.now c.args.cell e (c.any_target.ensures.none missed)
