use Rattle.std.proofs.Common.{sym, subst, ◌∷◌, ◌∙◌, ap}
use Rattle.stream_manager.specs.Stands.{ClientState}
use Rattle.own_lists.specs.pair_core.Calls.{step_of}
use Rattle.own_lists.specs.Course.{with_step}
use Rattle.client_seat.specs.Stands.{SeatState, Holds}
use Rattle.client_seat.proofs.seat.Seat.arrive.Goals as goal

pub returns-in_ok-server_events-in-Came-clause-stands : goal.returns-in_ok-server_events-in-Came-clause-stands
returns-in_ok-server_events-in-Came-clause-stands c t k s =
    let old : SeatState = record { pair = c.self.inside.pair; waiting = c.self.inside.waiting.items; taken = c.self.inside.taken } in
    let held : Holds old t (with_step (step_of c.args.step.now) k) = subst (λ (x : SeatState). Holds x t (with_step (step_of c.args.step.now) k)) (sym c.self.view_is) (c.bring.ensures.holds t k s) in
    record {
      holds = record {
        pair = c.server_events.ensures.stands t (step_of c.args.step.now ∷ k.steps) held.pair;
        waiting = held.waiting;
        taken = held.taken;
        few = held.few;
      };
      quiet_server = c.in_ok-server_events-in-Came.ensures.none;
      quiet_client = ap (λ (o : ClientState). o.common.receiver.ready) (c.server_events.ensures.client ∙ ap (λ (x : SeatState). x.pair.client) c.self.view_is ∙ c.bring.ensures.client) ∙ s.quiet_client;
    }
