use Rattle.std.proofs.Common.{◌≡◌, ◌-◌, ◌++◌, List, length, min, take, ap, sym, subst, ◌∙◌}
use Rattle.circular_buffer.specs.Buffer.{Buffer}
use Rattle.tn_types.specs.declared.moves.MoveBits.{MoveBits}
use Rattle.stream_manager.specs.Limits.{Terms}
use Rattle.stream_manager.specs.Stands.{ConnState}
use Rattle.own_lists.specs.pair_core.Answers.{answer}
use Rattle.own_lists.specs.pair_core.Calls.{step_of, Unchanged}
use Rattle.own_lists.specs.pair_core.declared.step.Answer.{Answer}
use Rattle.own_lists.specs.Course.{Course}
use Rattle.client_seat.specs.Answering.{TellsUp}
use Rattle.client_seat.specs.Stands.{SeatState, StandsFor}
use Rattle.client_seat.proofs.Brought.{up-tells, up-hands, up-keeps, up-lends, refused-holds, came-holds}
use Rattle.client_seat.proofs.seat.Seat.bring.Goals as goal

pub returns-in-Came-clause-holds : goal.returns-in-Came-clause-holds
returns-in-Came-clause-holds c t k s =
    let old : SeatState = record { pair = c.self.inside.pair; waiting = c.self.inside.waiting.items; taken = c.self.inside.taken } in
    let stood : StandsFor old t k = subst (λ (x : SeatState). StandsFor x t k) (sym c.self.view_is) s in
    let new = c.step-answer.new.self in
    let lent : c.taken_bits.result.now ≡ new.conn.taken = c.taken_bits.ensures ∙ ap (λ (o : ConnState). o.taken) c.conn.ensures in
    came-holds old new c.args.step.now c.requires.comes c.step-answer.ensures.stands t k stood c.fill_from_slice.result c.fill_from_slice.new.self.items
    (up-lends old.pair new c.args.step.now c.in-Came.moves c.requires.comes c.in-Came.ensures.moves) (c.requires.room t k s)
    (c.fill_from_slice.ensures.count ∙ (λ j. min (length (lent j)) (c.self.invariant j - length old.waiting)))
    (ap (λ (b : Buffer MoveBits). b.items) c.fill_from_slice.ensures.items ∙ ap (λ (ms : List MoveBits). old.waiting ++ take c.fill_from_slice.result ms) lent)

pub returns-in_default : goal.returns-in_default
returns-in_default c =
    let old : SeatState = record { pair = c.self.inside.pair; waiting = c.self.inside.waiting.items; taken = c.self.inside.taken } in
    let stood : (t : Terms) (k : Course) → StandsFor c.args.self.now t k → StandsFor old t k = λ t k s. subst (λ (x : SeatState). StandsFor x t k) (sym c.self.view_is) s in
    let new = c.step-answer.new.self in
    let g = c.args.step.now in
    let said : (t : Terms) (k : Course) → StandsFor c.args.self.now t k → c.step-answer.result ≡ answer t k.steps (step_of g) = λ t k s. c.step-answer.ensures.answer t k.steps (stood t k s).holds.pair in
    let r = c.requires.stands in
    record {
      answer = said;
      one_of = subst (λ (a : Answer). TellsUp a) (sym (said r.terms r.course r.stands)) (up-tells r.terms r.course.steps g c.requires.comes);
      holds = λ t k s. refused-holds old new g c.requires.comes c.step-answer.ensures.stands t k (stood t k s) (λ moves is. c.in_default.not-Came moves (said t k s ∙ is));
      handed = λ t k s. up-hands old.pair new g c.requires.comes c.step-answer.ensures.handed t k.steps (stood t k s).holds.pair;
      client = up-keeps old.pair new g c.requires.comes c.step-answer.ensures.keeps ∙ ap (λ (x : SeatState). x.pair.client) c.self.view_is;
      keeping = c.step-answer.ensures.keeping ∙ ap (λ (x : SeatState). x.pair.keeps_all) c.self.view_is;
      unchanged = subst (λ (x : SeatState). Unchanged x.pair c.step-answer.result new) c.self.view_is c.step-answer.ensures.unchanged;
    }
