use Rattle.std.proofs.Common.{◌≡◌, ◌<◌, ◌≤◌, length, Some, Ok, ap, sym, subst, ◌∙◌, arith}
use Rattle.std.specs.Prelude.{slice_get}
use Rattle.std.specs.Result.{result_err}
use Rattle.timeline.specs.Telling.{told_of}
use Rattle.timeline.specs.Keeping.{Kept, value_in}
use Rattle.timeline.specs.Standing.{Drawing, field_check, then_ok, value_told}
use Rattle.timeline.proofs.SlotFacts.{at_index}
use Rattle.timeline.proofs.AnswerFacts.{field_bad, slot_bad, slot_good, both_good, no_value, its_value}
use Rattle.tn_types.specs.Checks.{then_check}
use Rattle.timeline.proofs.told.Timeline.value_at.Goals as goal

pub returns-then-len-slot-clause-told : goal.returns-then-len-slot-clause-told
returns-then-len-slot-clause-told c log h =
    let t = c.args.self.now in
    let past : length c.self.inside.slots.items ≤ c.args.slot = omega (arith, c.self.inside.slots.ok.0) in
    sym (ap (λ k. then_ok (then_check k (field_check t c.args.field)) (value_told t c.args.field c.args.at (told_of c.args.slot log)))
    (slot_bad t c.args.slot (subst (λ (d : Drawing). length d.slots ≤ c.args.slot) c.self.view_is past)))

pub returns-then-self-field-clause-told : goal.returns-then-self-field-clause-told
returns-then-self-field-clause-told c log h =
    let t = c.args.self.now in
    let less : c.args.slot < length c.self.inside.slots.items = omega (arith, c.self.inside.slots.ok.0) in
    let many : c.args.slot < length c.args.self.now.slots = subst (λ (d : Drawing). c.args.slot < length d.slots) c.self.view_is less in
    let past : c.self.inside.fields ≤ c.args.field = omega arith in
    sym (ap (λ k. then_ok (then_check k (field_check t c.args.field)) (value_told t c.args.field c.args.at (told_of c.args.slot log))) (slot_good t c.args.slot many)
    ∙ ap (λ k. then_ok k (value_told t c.args.field c.args.at (told_of c.args.slot log)))
    (field_bad t c.args.field (subst (λ (d : Drawing). d.fields ≤ c.args.field) c.self.view_is past)))

pub value-requires : goal.value-requires
value-requires c =
    let less : c.args.slot < length c.self.inside.slots.items = omega (arith, c.self.inside.slots.ok.0) in
    let count = c.self.invariant.each c.args.slot c.index-place.result.now (at_index c.self.inside.slots.items c.args.slot c.index-place.result.now less c.index-place.ensures) in
    omega arith

pub returns-in-None-clause-told : goal.returns-in-None-clause-told
returns-in-None-clause-told c log h =
    let t = c.args.self.now in
    let less : c.args.slot < length c.self.inside.slots.items = omega (arith, c.self.inside.slots.ok.0) in
    let many : c.args.slot < length c.args.self.now.slots = subst (λ (d : Drawing). c.args.slot < length d.slots) c.self.view_is less in
    let x = c.index-place.result.now in
    let here : slice_get c.args.self.now.slots c.args.slot ≡ Some x =
    subst (λ (d : Drawing). slice_get d.slots c.args.slot ≡ Some x) c.self.view_is (at_index c.self.inside.slots.items c.args.slot x less c.index-place.ensures) in
    let within : c.args.field < c.args.self.now.fields = subst (λ (d : Drawing). c.args.field < d.fields) c.self.view_is (omega arith) in
    ap Ok (no_value t log c.args.slot c.args.field c.args.at x h here (sym c.in-None.ensures))
    ∙ sym (ap (λ k. then_ok k (value_told t c.args.field c.args.at (told_of c.args.slot log))) (both_good t c.args.slot c.args.field many within))

pub returns-in-Some-clause-told : goal.returns-in-Some-clause-told
returns-in-Some-clause-told c log h =
    let t = c.args.self.now in
    let less : c.args.slot < length c.self.inside.slots.items = omega (arith, c.self.inside.slots.ok.0) in
    let many : c.args.slot < length c.args.self.now.slots = subst (λ (d : Drawing). c.args.slot < length d.slots) c.self.view_is less in
    let x = c.index-place.result.now in
    let here : slice_get c.args.self.now.slots c.args.slot ≡ Some x =
    subst (λ (d : Drawing). slice_get d.slots c.args.slot ≡ Some x) c.self.view_is (at_index c.self.inside.slots.items c.args.slot x less c.index-place.ensures) in
    let within : c.args.field < c.args.self.now.fields = subst (λ (d : Drawing). c.args.field < d.fields) c.self.view_is (omega arith) in
    ap Ok (its_value t log c.args.slot c.args.field c.args.at c.in-Some.kind x c.value.result h here (sym c.in-Some.ensures) within
    (λ (k : Kept) e. c.value.ensures k e ∙ ap (λ w. value_in w c.args.at k.frames) c.way.ensures))
    ∙ sym (ap (λ k. then_ok k (value_told t c.args.field c.args.at (told_of c.args.slot log))) (both_good t c.args.slot c.args.field many within))

pub returns-then-len-slot-clause-refused : goal.returns-then-len-slot-clause-refused
returns-then-len-slot-clause-refused c =
    let t = c.args.self.now in
    let past : length c.self.inside.slots.items ≤ c.args.slot = omega (arith, c.self.inside.slots.ok.0) in
    sym (ap (λ k. result_err (then_check k (field_check t c.args.field))) (slot_bad t c.args.slot (subst (λ (d : Drawing). length d.slots ≤ c.args.slot) c.self.view_is past)))

pub returns-then-self-field-clause-refused : goal.returns-then-self-field-clause-refused
returns-then-self-field-clause-refused c =
    let t = c.args.self.now in
    let less : c.args.slot < length c.self.inside.slots.items = omega (arith, c.self.inside.slots.ok.0) in
    let many : c.args.slot < length c.args.self.now.slots = subst (λ (d : Drawing). c.args.slot < length d.slots) c.self.view_is less in
    let past : c.self.inside.fields ≤ c.args.field = omega arith in
    sym (ap (λ k. result_err (then_check k (field_check t c.args.field))) (slot_good t c.args.slot many)
    ∙ ap result_err (field_bad t c.args.field (subst (λ (d : Drawing). d.fields ≤ c.args.field) c.self.view_is past)))

pub returns-in-None-clause-refused : goal.returns-in-None-clause-refused
returns-in-None-clause-refused c =
    let t = c.args.self.now in
    let less : c.args.slot < length c.self.inside.slots.items = omega (arith, c.self.inside.slots.ok.0) in
    let many : c.args.slot < length c.args.self.now.slots = subst (λ (d : Drawing). c.args.slot < length d.slots) c.self.view_is less in
    let within : c.args.field < c.args.self.now.fields = subst (λ (d : Drawing). c.args.field < d.fields) c.self.view_is (omega arith) in
    sym (ap result_err (both_good t c.args.slot c.args.field many within))

pub returns-in-Some-clause-refused : goal.returns-in-Some-clause-refused
returns-in-Some-clause-refused c =
    let t = c.args.self.now in
    let less : c.args.slot < length c.self.inside.slots.items = omega (arith, c.self.inside.slots.ok.0) in
    let many : c.args.slot < length c.args.self.now.slots = subst (λ (d : Drawing). c.args.slot < length d.slots) c.self.view_is less in
    let within : c.args.field < c.args.self.now.fields = subst (λ (d : Drawing). c.args.field < d.fields) c.self.view_is (omega arith) in
    sym (ap result_err (both_good t c.args.slot c.args.field many within))
