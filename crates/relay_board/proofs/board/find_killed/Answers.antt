use Rattle.std.proofs.Common.{◌∙◌, ℕ, Bool, [], Option, Some, None, sym, ap, if◌then◌else◌}
use Rattle.ghost_client.specs.State.{copy_in}
use Rattle.ghost_masks.proofs.Holders.{built_none, built_some, built_not}
use Rattle.relay_board.specs.Changes.{killed_at}
use Rattle.relay_board.proofs.board.find_killed.Goals as goal
use Rattle.relay_board.proofs.board.find_killed.Goals.{then-is_killed+in_ok-push, else-is_killed}

pub loop-slot-init : goal.loop-slot-init
loop-slot-init c = c.clear.ensures.items ∙ built_none (killed_at (copy_in c.args.old.now) (copy_in c.args.copies.now.slots)) []

pub loop-slot-preserved : goal.loop-slot-preserved
loop-slot-preserved c =
    let old = copy_in c.args.old.now in
    let new = copy_in c.args.copies.now.slots in
    let at = c.loop-slot.slot in
    let by : Bool → Option ℕ = λ b. if b then Some at else None in
    elim c.if-is_killed.branch [
      | then-is_killed+in_ok-push w ↦ built_some (killed_at old new) [] at c.loop-slot.killed.items c.if-is_killed.killed.items at
          (ap by (sym c.is_killed.ensures ∙ w.if-is_killed.true)) c.loop-slot.invariant (ap (λ v. v.items) w.killed-is ∙ w.in_ok-push.ensures.items)
      | else-is_killed w ↦ built_not (killed_at old new) [] at c.loop-slot.killed.items c.if-is_killed.killed.items
          (ap by (sym c.is_killed.ensures ∙ w.if-is_killed.false)) c.loop-slot.invariant (ap (λ v. v.items) w.killed-is)
    ]
