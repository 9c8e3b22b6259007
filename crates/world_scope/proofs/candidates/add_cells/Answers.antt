use Rattle.std.proofs.Common.{◌≡◌, ◌≤◌, arith}
use Rattle.world_cells.specs.Grid.{lies_between}
use Rattle.world_scope.specs.Candidates.{either}
use Rattle.world_scope.proofs.Parts.{part_none, part_more}
use Rattle.world_scope.proofs.candidates.add_cells.Goals as goal

pub loop-row-init : goal.loop-row-init
loop-row-init c = λ p those. part_none c.args.words.now p c.args.world.now.objects c.args.columns.0 c.args.columns.1 c.args.rows.0 those

pub loop-row-preserved : goal.loop-row-preserved
loop-row-preserved c = λ p those.
    let from : c.args.rows.0 ≤ c.loop-row.row = omega arith in
    let before = lies_between c.args.columns.0 c.args.columns.1 c.args.rows.0 c.loop-row.row in
    part_more c.add_row.new.words p c.args.world.now.objects c.args.columns.0 c.args.columns.1 c.args.rows.0 c.loop-row.row from
    (c.add_row.ensures (either p before) (c.loop-row.invariant p those))

pub returns : goal.returns
returns c =
    let end : c.loop-row.row ≡ c.args.rows.1 = omega (arith, c.loop-row.auto.row-end, c.requires.row_order, c.loop-row-test.false) in
    rw end at c.loop-row.invariant
