use Rattle.std.proofs.Common.{sym, subst}
use Rattle.client_seat.specs.Stands.{SeatState, StandsFor}
use Rattle.client_seat.specs.Told.{client_pack_told}
use Rattle.client_seat.proofs.Packs.{all-ok, client-packs}
use Rattle.client_seat.proofs.seat.Seat.client_pack.Goals as goal

pub returns-clause-told : goal.returns-clause-told
returns-clause-told c =
    let old : SeatState = record { pair = c.self.inside.pair; waiting = c.self.inside.waiting.items; taken = c.self.inside.taken } in
    all-ok c.packed_by.result c.args.self.now (λ t k. client_pack_told c.args.client t k.steps)
    (λ t k s.
    let stood : StandsFor old t k = subst (λ (x : SeatState). StandsFor x t k) (sym c.self.view_is) s in
    let now = c.in_ok-prepare.ensures.stands t k.steps stood.holds.pair in
    client-packs t k.steps c.args.client c.packed_by.result c.step-answer.result c.step-answer.new.self.up (c.step-answer.ensures.answer t k.steps now) (c.step-answer.ensures.stands t k.steps now).up c.packed_by.ensures.worn c.packed_by.ensures.made)
