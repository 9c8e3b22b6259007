use Rattle.std.proofs.Common.{sym, subst}
use Rattle.own_lists.specs.pair_core.History.{Post}
use Rattle.client_seat.specs.Stands.{SeatState, StandsFor, Becomes}
use Rattle.own_lists.specs.Course.{with_step}
use Rattle.client_seat.proofs.Making.{with_pair, stands_more}
use Rattle.client_seat.proofs.Posts.{none_by_post, post_tells}
use Rattle.client_seat.proofs.seat.Seat.post.Goals as goal

pub returns-clause-told : goal.returns-clause-told
returns-clause-told c t k s =
    let old : SeatState = record { pair = c.self.inside.pair; waiting = c.self.inside.waiting.items; taken = c.self.inside.taken } in
    let stood : StandsFor old t k = subst (λ (x : SeatState). StandsFor x t k) (sym c.self.view_is) s in
    post_tells t k.steps c.args.payload c.args.client c.step-answer.result c.posted.result c.args.class (c.posted.ensures.guaranteed, c.posted.ensures.loose)
    (c.step-answer.ensures.answer t k.steps stood.holds.pair)

pub returns-clause-stands : goal.returns-clause-stands
returns-clause-stands c =
    let old : SeatState = record { pair = c.self.inside.pair; waiting = c.self.inside.waiting.items; taken = c.self.inside.taken } in
    subst (λ (x : SeatState). Becomes x (λ t k. with_step (Post c.args.class c.args.payload) k) (with_pair old c.step-answer.new.self)) c.self.view_is
    (stands_more old c.step-answer.new.self (Post c.args.class c.args.payload) (none_by_post c.args.class c.args.payload) c.step-answer.ensures.stands c.step-answer.ensures.keeps)
