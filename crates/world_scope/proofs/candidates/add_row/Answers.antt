use Rattle.std.proofs.Common.{◌≡◌, ◌≤◌, arith}
use Rattle.world_cells.specs.Grid.{lies_at}
use Rattle.world_cells.proofs.Numbers.{all_there}
use Rattle.world_scope.specs.Candidates.{either, is_in_row}
use Rattle.world_scope.proofs.Parts.{row_none, row_more}
use Rattle.world_scope.proofs.candidates.add_row.Goals as goal

pub loop-column-init : goal.loop-column-init
loop-column-init c = λ p those. row_none c.args.words.now p c.args.world.now.objects c.args.row c.args.columns.0 those

pub add_all-requires : goal.add_all-requires
add_all-requires c = record {
  few = λ k l.
      let there = all_there (lies_at c.loop-column.column c.args.row) c.args.world.now.objects c.cell.result.now c.cell.ensures k l in
      omega (arith, there, c.requires.few);
}

pub loop-column-preserved : goal.loop-column-preserved
loop-column-preserved c = λ p those.
    let from : c.args.columns.0 ≤ c.loop-column.column = omega arith in
    let before = is_in_row c.args.row c.args.columns.0 c.loop-column.column in
    let cell = lies_at c.loop-column.column c.args.row in
    row_more c.add_all.new.words p c.args.world.now.objects c.args.row c.args.columns.0 c.loop-column.column from
    (c.add_all.ensures (either p before) cell c.args.world.now.objects (c.loop-column.invariant p those) c.cell.ensures)

pub returns : goal.returns
returns c =
    let end : c.loop-column.column ≡ c.args.columns.1 = omega (arith, c.loop-column.auto.column-end, c.requires.order, c.loop-column-test.false) in
    rw end at c.loop-column.invariant
