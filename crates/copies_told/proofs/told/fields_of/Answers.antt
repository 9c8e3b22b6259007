use Rattle.std.proofs.Common.{◌≡◌, ◌+◌, ◌++◌, ◌∙◌, ◌∷◌, ap, sym, length, arith, List, [], false, length-append, SFits, w64, rules}
use Rattle.std.specs.Prelude.{Some, None, ℤ}
use Rattle.std.specs.Option.{option_map, option_and_then}
use Rattle.std.proofs.lemmas.Int.{to_z-of_z}
use Rattle.ghost_client.specs.declared.copy.GhostCopy.{GhostCopy}
use Rattle.ghost_client.specs.State.{field_value, copy_in}
use Rattle.ghost_masks.proofs.Holders.{built_none, built_some, built_not}
use Rattle.match_report.specs.declared.copies.FieldTold.{FieldTold}
use Rattle.copies_told.specs.Told.{field_told}
use Rattle.copies_told.proofs.told.fields_of.Goals as goal
use Rattle.copies_told.proofs.told.fields_of.Goals.{in-Some, in_default}

abbrev mark : ℤ → FieldTold
mark value = record { value = value; settled = false }

pub loop-field-init : goal.loop-field-init
loop-field-init c = record {
  few = rw c.new-fields.ensures (omega arith);
  told = λ copy is. c.new-fields.ensures ∙ built_none (field_told c.args.copies.now.kinds copy) [];
}

pub loop-field-preserved : goal.loop-field-preserved
loop-field-preserved c =
    let copies = c.args.copies.now in
    let f = c.loop-field.field in
    let shows : (copy : GhostCopy) → copy_in copies.slots c.args.slot ≡ Some copy → c.value.result ≡ field_value copies.kinds f copy =
    λ copy is. c.value.ensures.value ∙ ap (option_and_then (field_value copies.kinds f)) is in
    elim c.match-value.branch [
      | in-Some w ↦
          (let fits : SFits w64 w.in-Some.value = search rules in
          let told : FieldTold = record { value = w.in-Some.value; settled = false } in
          let more : c.match-value.fields ≡ c.loop-field.fields ++ told ∷ [] =
          w.fields-is ∙ w.push.ensures ∙ ap (λ v. c.loop-field.fields ++ record { value = v; settled = false } ∷ []) (to_z-of_z w64 w.in-Some.value fits) in
          record {
            few =
                let long : length c.match-value.fields ≡ length c.loop-field.fields + 1 = ap (λ (l : List FieldTold). length l) more ∙ length-append c.loop-field.fields (told ∷ []) in
                omega (arith, long, c.loop-field.invariant.few);
            told = λ copy is.
                let here : field_told copies.kinds copy f ≡ Some told = ap (option_map mark) (sym (shows copy is) ∙ w.in-Some.is) in
                built_some (field_told copies.kinds copy) [] f c.loop-field.fields c.match-value.fields told here (c.loop-field.invariant.told copy is) more;
          })
      | in_default w ↦ record {
        few = rw w.fields-is (omega (arith, c.loop-field.invariant.few));
        told = λ copy is.
            let here : field_told copies.kinds copy f ≡ None = ap (option_map mark) (sym (shows copy is) ∙ w.in_default.is) in
            built_not (field_told copies.kinds copy) [] f c.loop-field.fields c.match-value.fields here (c.loop-field.invariant.told copy is) w.fields-is;
      }
    ]
