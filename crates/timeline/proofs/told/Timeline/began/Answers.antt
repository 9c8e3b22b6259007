use Rattle.std.proofs.Common.{◌≡◌, ◌<◌, ◌≤◌, ◌*◌, ◌∷◌, length, Some, ap, sym, subst, ◌∙◌, arith}
use Rattle.std.specs.Prelude.{slice_get}
use Rattle.std.proofs.lemmas.List.{length-map}
use Rattle.timeline.specs.Telling.{Told, Began}
use Rattle.timeline.specs.Standing.{Drawing, SlotKept, SlotStandsFor, StandsFor, emptied, slot_check, packet_check, kind_check}
use Rattle.timeline.proofs.SlotFacts.{at_index, begins, told_stands, set_whole}
use Rattle.timeline.proofs.AnswerFacts.{two_refuse, three_pass, kind_bad, kind_good}
use Rattle.timeline.proofs.told.Timeline.began.Goals as goal

pub returns-in-Err-clause-answer : goal.returns-in-Err-clause-answer
returns-in-Err-clause-answer c =
    let t = c.args.self.now in
    sym (two_refuse (slot_check t c.args.slot) (packet_check t c.args.packet) (kind_check t c.args.kind) c.in-Err.refusal (sym c.in-Err.ensures.answer))

pub returns-then-len-kind-clause-answer : goal.returns-then-len-kind-clause-answer
returns-then-len-kind-clause-answer c =
    let t = c.args.self.now in
    let few : length c.self.inside.ways.items ≤ c.args.kind * c.self.inside.fields = omega (arith, c.self.inside.ways.ok.0) in
    sym (three_pass (slot_check t c.args.slot) (packet_check t c.args.packet) (kind_check t c.args.kind) c.in_default.field-0 (sym c.in_default.ensures.answer)
    ∙ kind_bad t c.args.kind (subst (λ (d : Drawing). length d.ways ≤ c.args.kind * d.fields) c.self.view_is few))

pub returns-clause-answer : goal.returns-clause-answer
returns-clause-answer c =
    let t = c.args.self.now in
    let many : c.args.kind * c.self.inside.fields < length c.self.inside.ways.items = omega (arith, c.self.inside.ways.ok.0) in
    sym (three_pass (slot_check t c.args.slot) (packet_check t c.args.packet) (kind_check t c.args.kind) c.in_default.field-0 (sym c.in_default.ensures.answer)
    ∙ kind_good t c.args.kind (subst (λ (d : Drawing). c.args.kind * d.fields < length d.ways) c.self.view_is many))

pub invariant_of-self : goal.invariant_of-self
invariant_of-self c =
    let less : c.args.slot < length c.self.inside.slots.items = subst (λ (d : Drawing). c.args.slot < length d.slots) (sym c.self.view_is) c.in_default.ensures.slot in
    let here : slice_get c.self.inside.slots.items c.args.slot ≡ Some c.index_mut.result.now = at_index c.self.inside.slots.items c.args.slot c.index_mut.result.now less c.index_mut.ensures.value in
    let count : length c.begin.new.self.fields ≡ c.self.inside.fields =
    ap (λ (s : SlotKept). length s.fields) c.begin.ensures ∙ length-map c.index_mut.result.now.fields emptied ∙ c.self.invariant.each c.args.slot c.index_mut.result.now here in
    set_whole c.self.inside.fields c.self.inside.depth c.args.slot c.self.inside.slots.items c.begin.new.self count c.self.invariant

pub returns-clause-log : goal.returns-clause-log
returns-clause-log c log h =
    let less : c.args.slot < length c.self.inside.slots.items = subst (λ (d : Drawing). c.args.slot < length d.slots) (sym c.self.view_is) c.in_default.ensures.slot in
    let here : slice_get c.self.inside.slots.items c.args.slot ≡ Some c.index_mut.result.now = at_index c.self.inside.slots.items c.args.slot c.index_mut.result.now less c.index_mut.ensures.value in
    let t : Drawing = record { ways = c.self.inside.ways.items; fields = c.self.inside.fields; depth = c.self.inside.depth; latest = c.self.inside.latest; slots = c.self.inside.slots.items } in
    let told : Told = record { slot = c.args.slot; packet = c.args.packet; what = Began c.args.kind } in
    told_stands t log told c.index_mut.result.now c.begin.new.self (subst (λ (d : Drawing). StandsFor d log) (sym c.self.view_is) h) here
    (λ l s. subst (λ (y : SlotKept). SlotStandsFor t.depth t.fields y (told ∷ l)) (sym c.begin.ensures)
    (begins t.depth t.fields c.index_mut.result.now l c.args.slot c.args.packet c.args.kind s))
