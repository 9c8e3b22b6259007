use Rattle.std.proofs.Common.{◌≡◌, ◌<◌, ◌≤◌, length, Some, Ok, ap, sym, subst, ◌∙◌, arith}
use Rattle.std.specs.Prelude.{slice_get}
use Rattle.std.specs.Result.{result_err}
use Rattle.timeline.specs.Telling.{told_of}
use Rattle.timeline.specs.Standing.{Drawing, then_ok, kind_told}
use Rattle.timeline.proofs.SlotFacts.{at_index}
use Rattle.timeline.proofs.AnswerFacts.{slot_bad, slot_good, kind_stands}
use Rattle.timeline.proofs.told.Timeline.kind_at.Goals as goal

pub returns-then-len-slot-clause-told : goal.returns-then-len-slot-clause-told
returns-then-len-slot-clause-told c log h =
    let past : length c.self.inside.slots.items ≤ c.args.slot = omega (arith, c.self.inside.slots.ok.0) in
    sym (ap (λ k. then_ok k (kind_told c.args.at (told_of c.args.slot log)))
    (slot_bad c.args.self.now c.args.slot (subst (λ (d : Drawing). length d.slots ≤ c.args.slot) c.self.view_is past)))

pub returns-clause-told : goal.returns-clause-told
returns-clause-told c log h =
    let less : c.args.slot < length c.self.inside.slots.items = omega (arith, c.self.inside.slots.ok.0) in
    let many : c.args.slot < length c.args.self.now.slots = subst (λ (d : Drawing). c.args.slot < length d.slots) c.self.view_is less in
    let x = c.index-place.result.now in
    let here : slice_get c.args.self.now.slots c.args.slot ≡ Some x =
    subst (λ (d : Drawing). slice_get d.slots c.args.slot ≡ Some x) c.self.view_is (at_index c.self.inside.slots.items c.args.slot x less c.index-place.ensures) in
    ap Ok (c.kind_at.ensures ∙ kind_stands c.args.self.now log c.args.slot c.args.at x h here)
    ∙ sym (ap (λ k. then_ok k (kind_told c.args.at (told_of c.args.slot log))) (slot_good c.args.self.now c.args.slot many))

pub returns-then-len-slot-clause-refused : goal.returns-then-len-slot-clause-refused
returns-then-len-slot-clause-refused c =
    let past : length c.self.inside.slots.items ≤ c.args.slot = omega (arith, c.self.inside.slots.ok.0) in
    sym (ap result_err (slot_bad c.args.self.now c.args.slot (subst (λ (d : Drawing). length d.slots ≤ c.args.slot) c.self.view_is past)))

pub returns-clause-refused : goal.returns-clause-refused
returns-clause-refused c =
    let less : c.args.slot < length c.self.inside.slots.items = omega (arith, c.self.inside.slots.ok.0) in
    sym (ap result_err (slot_good c.args.self.now c.args.slot (subst (λ (d : Drawing). c.args.slot < length d.slots) c.self.view_is less)))
