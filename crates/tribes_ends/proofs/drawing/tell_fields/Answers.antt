use Rattle.std.proofs.Common.{◌≡◌, ◌∙◌, ℕ, List, Ok, Some, None, true, false, sym, ap, subst, arith}
use Rattle.std.specs.Prelude.{slice_get}
use Rattle.std.specs.Option.{option_and_then}
use Rattle.tn_types.specs.BitWords.{has_bit}
use Rattle.ghost_client.specs.State.{copy_in, field_value, value_of}
use Rattle.timeline.specs.Telling.{Told}
use Rattle.timeline.specs.Standing.{Drawing, Hears, KeepsShape, packet_check}
use Rattle.tribes_ends.specs.Drawing.{FitFields, value_shown, told_field, told_fields}
use Rattle.tribes_ends.proofs.Hearing.{keeps-more, none-told, told-here, told-not, field-heard, value-here, fits-here}
use Rattle.tribes_ends.proofs.drawing.tell_fields.Goals as goal
use Rattle.tribes_ends.proofs.drawing.tell_fields.Goals.{then-has_field, else-has_field}

pub fields-preserved : goal.fields-preserved
fields-preserved c =
    let old = c.args.timeline.now in
    let now = c.fields.timeline in
    let new = c.if-has_field.timeline in
    let field = c.fields.field in
    let copy = c.in-Some.copy.now in
    let kind = c.in-Some-kind.kind.now in
    let known : Some kind ≡ slice_get c.args.copies.now.kinds copy.kind = c.in-Some-kind.ensures.value ∙ ap (λ l. slice_get l copy.kind) c.table.ensures in
    let fields = c.as_slice-fields.result.now in
    let levels = c.as_slice-levels.result.now in
    let value = value_of c.args.copies.now in
    let next = told_field c.args.packet value c.args.slot c.args.mask field in
    elim c.if-has_field.branch [
      | then-has_field w ↦
          let set : has_bit c.args.mask field ≡ true = sym c.has_field.ensures ∙ w.if-has_field.true in
          let its : value_shown fields levels field ≡ value c.args.slot field =
          ap (λ l. value_shown l levels field) c.as_slice-fields.ensures.value ∙ ap (λ l. value_shown kind.fields l field) c.as_slice-levels.ensures.value
          ∙ value-here c.args.copies.now c.args.slot field copy kind c.in-Some.ensures.value known in
          let heard : Hears now next w.tell_field.new.timeline =
          subst (λ (l : List Told). Hears now l w.tell_field.new.timeline) (told-here c.args.packet c.args.slot c.args.mask field value (value_shown fields levels field) set its) w.tell_field.ensures.told in
          record {
            told = field-heard old now new c.args.packet c.args.slot c.args.mask field value c.fields.invariant.told (subst (λ (d : Drawing). Hears now next d) (sym w.timeline-is) heard);
            shape = subst (λ (d : Drawing). KeepsShape old d) (sym w.timeline-is) (keeps-more old now w.tell_field.new.timeline c.fields.invariant.shape w.tell_field.ensures.shape);
            packet = subst (λ (d : Drawing). packet_check d c.args.packet ≡ Ok tt) (sym w.timeline-is) w.tell_field.ensures.packet;
          }
      | else-has_field w ↦
          let clear : has_bit c.args.mask field ≡ false = sym c.has_field.ensures ∙ w.if-has_field.false in
          let heard : Hears now next now = subst (λ (l : List Told). Hears now l now) (told-not c.args.packet c.args.slot c.args.mask field value clear) (λ log s. s) in
          record {
            told = field-heard old now new c.args.packet c.args.slot c.args.mask field value c.fields.invariant.told (subst (λ (d : Drawing). Hears now next d) (sym w.timeline-is) heard);
            shape = subst (λ (d : Drawing). KeepsShape old d) (sym w.timeline-is) c.fields.invariant.shape;
            packet = subst (λ (d : Drawing). packet_check d c.args.packet ≡ Ok tt) (sym w.timeline-is) c.fields.invariant.packet;
          }
    ]

-- a slot without a copy shows no value
pub returns-in_default-clause-told : goal.returns-in_default-clause-told
returns-in_default-clause-told c =
    let t = c.args.timeline.now in
    let kinds = c.args.copies.now.kinds in
    let value = value_of c.args.copies.now in
    let none : copy_in c.args.copies.now.slots c.args.slot ≡ None = sym c.in_default.ensures.value in
    subst (λ (l : List Told). Hears t l t) (none-told c.args.packet c.args.slot c.args.mask t.fields value (λ field. ap (option_and_then (field_value kinds field)) none)) (λ log s. s)

pub tell_field-requires-clause-fit : goal.tell_field-requires-clause-fit
tell_field-requires-clause-fit c =
    let copy = c.in-Some.copy.now in
    let kind = c.in-Some-kind.kind.now in
    let kinds = c.args.copies.now.kinds in
    let known : Some kind ≡ slice_get kinds copy.kind = c.in-Some-kind.ensures.value ∙ ap (λ l. slice_get l copy.kind) c.table.ensures in
    subst (λ l. FitFields l c.as_slice-levels.result.now) (sym c.as_slice-fields.ensures.value)
    (subst (FitFields kind.fields) (sym c.as_slice-levels.ensures.value) (fits-here kinds copy kind c.in-Some.ensures.range known c.in-Some-kind.ensures.limits))

pub returns-clause-told : goal.returns-clause-told
returns-clause-told c =
    let all : c.fields.field ≡ c.args.timeline.now.fields = omega (arith, c.fields-count.ensures.value, c.fields-count.ensures.few, c.fields.auto.field-end) in
    subst (λ (n : ℕ). Hears c.args.timeline.now (told_fields c.args.packet (value_of c.args.copies.now) c.args.slot c.args.mask n) c.fields.timeline) all c.fields.invariant.told
