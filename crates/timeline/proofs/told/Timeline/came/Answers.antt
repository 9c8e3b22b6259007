use Rattle.std.proofs.Common.{◌<◌, ◌≤◌, sym, subst, ◌∙◌, arith}
use Rattle.timeline.specs.Standing.{Drawing, slot_check, packet_check, field_check}
use Rattle.timeline.proofs.AnswerFacts.{two_refuse, three_pass, field_bad, field_good}
use Rattle.timeline.proofs.told.Timeline.came.Goals as goal

pub returns-in-Err-clause-answer : goal.returns-in-Err-clause-answer
returns-in-Err-clause-answer c =
    let t = c.args.self.now in
    sym (two_refuse (slot_check t c.args.slot) (packet_check t c.args.packet) (field_check t c.args.field) c.in-Err.refusal (sym c.in-Err.ensures.answer))

pub returns-then-self-field-clause-answer : goal.returns-then-self-field-clause-answer
returns-then-self-field-clause-answer c =
    let t = c.args.self.now in
    let few : c.self.inside.fields ≤ c.args.field = omega arith in
    sym (three_pass (slot_check t c.args.slot) (packet_check t c.args.packet) (field_check t c.args.field) c.in_default.field-0 (sym c.in_default.ensures.answer)
    ∙ field_bad t c.args.field (subst (λ (d : Drawing). d.fields ≤ c.args.field) c.self.view_is few))

pub returns-clause-answer : goal.returns-clause-answer
returns-clause-answer c =
    let t = c.args.self.now in
    let many : c.args.field < c.self.inside.fields = omega arith in
    sym (three_pass (slot_check t c.args.slot) (packet_check t c.args.packet) (field_check t c.args.field) c.in_default.field-0 (sym c.in_default.ensures.answer)
    ∙ field_good t c.args.field (subst (λ (d : Drawing). c.args.field < d.fields) c.self.view_is many))
