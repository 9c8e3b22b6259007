use Rattle.std.proofs.Common.{sym, subst}
use Rattle.client_seat.specs.Stands.{SeatState, StandsFor}
use Rattle.client_seat.proofs.Posts.{client_post_tells}
use Rattle.client_seat.proofs.seat.Seat.client_post.Goals as goal

pub returns-clause-told : goal.returns-clause-told
returns-clause-told c t k s =
    let old : SeatState = record { pair = c.self.inside.pair; waiting = c.self.inside.waiting.items; taken = c.self.inside.taken } in
    let stood : StandsFor old t k = subst (λ (x : SeatState). StandsFor x t k) (sym c.self.view_is) s in
    client_post_tells t k.steps c.args.payload c.args.client c.step-answer.result c.posted.result c.args.class (c.posted.ensures.guaranteed, c.posted.ensures.loose)
    (c.step-answer.ensures.answer t k.steps stood.holds.pair)
