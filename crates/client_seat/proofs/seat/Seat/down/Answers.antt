use Rattle.std.proofs.Common.{sym, subst, ◌∷◌, ◌∙◌, ap}
use Rattle.stream_manager.specs.Stands.{ConnState}
use Rattle.own_lists.specs.pair_core.History.{Down}
use Rattle.client_seat.specs.Stands.{SeatState, StandsFor}
use Rattle.own_lists.specs.pair_core.declared.step.Answer.{Answer}
use Rattle.client_seat.specs.Answering.{TellsDown}
use Rattle.client_seat.proofs.Brought.{down-tells, no_other_down}
use Rattle.client_seat.proofs.seat.Seat.down.Goals as goal

pub unreachable-requires : goal.unreachable-requires
unreachable-requires c =
    let r = c.requires.stands in
    let old : SeatState = record { pair = c.self.inside.pair; waiting = c.self.inside.waiting.items; taken = c.self.inside.taken } in
    let stood : StandsFor old r.terms r.course = subst (λ (x : SeatState). StandsFor x r.terms r.course) (sym c.self.view_is) r.stands in
    let tells : TellsDown c.step.result = subst (λ (a : Answer). TellsDown a) (sym (c.step.ensures.answer r.terms r.course.steps stood.holds.pair)) (down-tells r.terms r.course.steps c.args.k) in
    no_other_down c.step.result tells c.in_default.not-Came c.in_default.not-ClientRefused c.in_default.not-NotSent

pub returns-in-Came-clause-stands : goal.returns-in-Came-clause-stands
returns-in-Came-clause-stands c t k s =
    let old : SeatState = record { pair = c.self.inside.pair; waiting = c.self.inside.waiting.items; taken = c.self.inside.taken } in
    let stood : StandsFor old t k = subst (λ (x : SeatState). StandsFor x t k) (sym c.self.view_is) s in
    record {
      holds = record {
        pair = c.client_events.ensures.stands t (Down c.args.k ∷ k.steps) (c.step.ensures.stands t k.steps stood.holds.pair);
        waiting = stood.holds.waiting;
        taken = stood.holds.taken;
        few = stood.holds.few;
      };
      quiet_server = ap (λ (o : ConnState). o.common.receiver.ready) (c.client_events.ensures.server ∙ c.step.ensures.keeps) ∙ stood.quiet_server;
      quiet_client = c.in_ok-client_events-in-Came.ensures.none;
    }
