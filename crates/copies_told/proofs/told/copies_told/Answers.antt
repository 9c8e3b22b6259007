use Rattle.std.proofs.Common.{◌≡◌, ◌∙◌, ap, sym, []}
use Rattle.std.specs.Prelude.{None, Some}
use Rattle.std.specs.Option.{option_copied, option_map}
use Rattle.ghost_client.specs.declared.copy.GhostCopy.{GhostCopy}
use Rattle.ghost_client.specs.Copies.{copy_of}
use Rattle.ghost_client.specs.State.{copy_in}
use Rattle.ghost_masks.proofs.Holders.{built_none, built_some, built_not}
use Rattle.match_report.specs.declared.copies.CopyTold.{CopyTold}
use Rattle.copies_told.specs.Told.{copy_told, slot_told}
use Rattle.copies_told.proofs.told.copies_told.Goals as goal
use Rattle.copies_told.proofs.told.copies_told.Goals.{in-Some+in_ok-push, in_default}

pub loop-slot-init : goal.loop-slot-init
loop-slot-init c items s = c.new-list.ensures ∙ built_none (slot_told c.args.copies.now.kinds items) []

pub loop-slot-preserved : goal.loop-slot-preserved
loop-slot-preserved c items s =
    let at = c.loop-slot.slot in
    let copies = c.args.copies.now in
    let got : option_copied c.get.result ≡ copy_of items at = c.get.ensures.told items s in
    elim c.match-get.branch [
      | in-Some+in_ok-push w ↦
          (let copy : GhostCopy = w.in-Some.copy.now in
          let here : copy_of items at ≡ Some copy = sym got ∙ ap (λ o. option_copied o) w.in-Some.is in
          let there : copy_in copies.slots at ≡ Some copy = sym c.get.ensures.value ∙ ap (λ o. option_copied o) w.in-Some.is in
          let told : CopyTold = record { slot = at; kind = copy.kind; block = copy.block; fields = w.fields_of.result } in
          let is : slot_told copies.kinds items at ≡ Some told =
          ap (option_map (copy_told copies.kinds at)) here ∙ (λ j. Some (record { slot = at; kind = copy.kind; block = copy.block; fields = sym (w.fields_of.ensures copy there) j })) in
          built_some (slot_told copies.kinds items) [] at c.loop-slot.list c.match-get.list told is (c.loop-slot.invariant items s) (w.list-is ∙ w.in_ok-push.ensures.ok))
      | in_default w ↦
          (let here : copy_of items at ≡ None = sym got ∙ ap (λ o. option_copied o) w.in_default.is in
          built_not (slot_told copies.kinds items) [] at c.loop-slot.list c.match-get.list (ap (option_map (copy_told copies.kinds at)) here) (c.loop-slot.invariant items s) w.list-is)
    ]
