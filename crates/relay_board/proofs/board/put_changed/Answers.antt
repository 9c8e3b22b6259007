use Rattle.std.proofs.Common.{◌≡◌, ◌∙◌, ◌++◌, ◌∷◌, ℤ, Bool, [], Option, Some, None, sym, ap, if◌then◌else◌, SFits, w64, rules}
use Rattle.std.proofs.lemmas.Int.{to_z-of_z}
use Rattle.ghost_masks.proofs.Holders.{built_none, built_some, built_not}
use Rattle.relay_model.specs.Items.{shown_at}
use Rattle.relay_board.specs.declared.board.Change.{Change}
use Rattle.relay_board.specs.Changes.{change_of}
use Rattle.relay_board.proofs.board.put_changed.Goals as goal
use Rattle.relay_board.proofs.board.put_changed.Goals.{then-is_changed+in_ok-push, else-is_changed}

pub loop-field-init : goal.loop-field-init
loop-field-init c = built_none (change_of c.args.copies.now.kinds c.args.slot c.args.old.now c.args.new.now) c.args.changed.now.items

pub loop-field-preserved : goal.loop-field-preserved
loop-field-preserved c =
    let kinds = c.args.copies.now.kinds in
    let new = c.args.new.now in
    let at = c.loop-field.field in
    let told : ℤ → Change = λ v. record { slot = c.args.slot; field = at; value = v } in
    let by : Bool → Option Change = λ b. if b then Some (told (shown_at kinds new at)) else None in
    let f = change_of kinds c.args.slot c.args.old.now new in
    elim c.if-is_changed.branch [
      | then-is_changed+in_ok-push w ↦
          (let fits : SFits w64 w.value_of.result = search rules in
          let value = w.value_of.ensures new c.requires in
          let is : f at ≡ Some (told w.value_of.result) = ap by (sym c.is_changed.ensures ∙ w.if-is_changed.true) ∙ ap (λ v. Some (told v)) (sym value) in
          built_some f c.args.changed.now.items at c.loop-field.changed.items c.if-is_changed.changed.items (told w.value_of.result) is c.loop-field.invariant
          (ap (λ v. v.items) w.changed-is ∙ w.in_ok-push.ensures.items ∙ ap (λ v. c.loop-field.changed.items ++ told v ∷ []) (to_z-of_z w64 w.value_of.result fits)))
      | else-is_changed w ↦ built_not f c.args.changed.now.items at c.loop-field.changed.items c.if-is_changed.changed.items
          (ap by (sym c.is_changed.ensures ∙ w.if-is_changed.false)) c.loop-field.invariant (ap (λ v. v.items) w.changed-is)
    ]
