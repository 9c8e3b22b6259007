use Rattle.std.proofs.Common.{◌≡◌, ◌++◌, ◌∷◌, [], length, ◌+◌, length-append, ap, ◌∙◌, arith}
use Rattle.world_cells.proofs.Changes.{IsEmpty-none, IsEmpty-push, empty_at}
use Rattle.world_cells.proofs.cell_lists.CellLists.new.Goals as goal

pub loop-init : goal.loop-init
loop-init c = record { many = ap length c.in_ok-cells.ensures.items; empty = rw c.in_ok-cells.ensures.items IsEmpty-none }

pub loop-preserved : goal.loop-preserved
loop-preserved c =
    let cells = c.loop.cells.items in
    let now : c.push.new.self.items ≡ cells ++ [] ∷ [] = c.in_ok-push.ensures.items ∙ ap (λ cell. cells ++ cell ∷ []) c.in_ok-new.ensures in
    let longer : length (cells ++ [] ∷ []) ≡ length cells + 1 = length-append cells ([] ∷ []) in
    record { many = ap length now ∙ omega (arith, longer, c.loop.invariant.many); empty = rw now (IsEmpty-push cells c.loop.invariant.empty) }

pub returns-clause-all : goal.returns-clause-all
returns-clause-all c = omega (arith, c.loop.invariant.many, c.loop-test.false, c.loop.auto.counter-end)

pub returns-clause-empty : goal.returns-clause-empty
returns-clause-empty c = empty_at c.loop.cells.items c.loop.invariant.empty
