use Rattle.std.proofs.Common.{◌≡◌, ◌<◌, ◌∷◌, length, Some, ap, sym, subst, ◌∙◌}
use Rattle.std.specs.Prelude.{slice_get}
use Rattle.timeline.specs.Telling.{Told, Ended}
use Rattle.timeline.specs.Standing.{Drawing, SlotKept, SlotStandsFor, StandsFor}
use Rattle.timeline.proofs.SlotFacts.{at_index, ends, told_stands, set_whole}
use Rattle.timeline.proofs.told.Timeline.ended.Goals as goal

pub invariant_of-self : goal.invariant_of-self
invariant_of-self c =
    let less : c.args.slot < length c.self.inside.slots.items = subst (λ (d : Drawing). c.args.slot < length d.slots) (sym c.self.view_is) c.in_default.ensures.slot in
    let here : slice_get c.self.inside.slots.items c.args.slot ≡ Some c.index_mut.result.now = at_index c.self.inside.slots.items c.args.slot c.index_mut.result.now less c.index_mut.ensures.value in
    set_whole c.self.inside.fields c.self.inside.depth c.args.slot c.self.inside.slots.items c.finish.new.self
    (ap (λ (s : SlotKept). length s.fields) c.finish.ensures ∙ c.self.invariant.each c.args.slot c.index_mut.result.now here) c.self.invariant

pub returns-clause-log : goal.returns-clause-log
returns-clause-log c log h =
    let less : c.args.slot < length c.self.inside.slots.items = subst (λ (d : Drawing). c.args.slot < length d.slots) (sym c.self.view_is) c.in_default.ensures.slot in
    let here : slice_get c.self.inside.slots.items c.args.slot ≡ Some c.index_mut.result.now = at_index c.self.inside.slots.items c.args.slot c.index_mut.result.now less c.index_mut.ensures.value in
    let t : Drawing = record { ways = c.self.inside.ways.items; fields = c.self.inside.fields; depth = c.self.inside.depth; latest = c.self.inside.latest; slots = c.self.inside.slots.items } in
    let told : Told = record { slot = c.args.slot; packet = c.args.packet; what = Ended } in
    told_stands t log told c.index_mut.result.now c.finish.new.self (subst (λ (d : Drawing). StandsFor d log) (sym c.self.view_is) h) here
    (λ l s. subst (λ (y : SlotKept). SlotStandsFor t.depth t.fields y (told ∷ l)) (sym c.finish.ensures)
    (ends t.depth t.fields c.index_mut.result.now l c.args.slot c.args.packet s))
