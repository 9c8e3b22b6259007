use Rattle.std.proofs.Common.{◌*◌, ℕ, List, length, ap, Option, sym, subst}
use Rattle.tn_outside.specs.Links.{Datagram}
use Rattle.net_rules.specs.Turns.{total, events}
use Rattle.net_rules.proofs.ByAnswer.{on_ok2}
use Rattle.net_join.specs.Stages.{IsAt}
use Rattle.net_rules.proofs.Rounds.{due_at, place_next}
use Rattle.net_join.proofs.Rounds.{turn_at, turn_went}
use Rattle.net_join.proofs.joining.turn.Goals as goal

pub returns-clause-done : goal.returns-clause-done
returns-clause-done g c =
    on_ok2 c.end_turn.result
    (λ joins sent o counts begun len are place at.
    let l = c.in_ok-listen.ensures.done o (total counts) (length counts) (events o.ahead counts) place (due_at o.clock counts c.args.start (50 * c.from-due.result) c.args.t begun (ap (λ (n : ℕ). 50 * n) c.from-due.ensures) len) at.joins in
    let here = subst (λ (x : Option (List Datagram)). IsAt o.sent c.args.joiner.now x (events o.ahead counts)) (sym c.listen.ensures.unsent) at in (
      l.0,
      (l.1, are),
      place_next o.ahead o.clock (g.L.Link.ahead c.listen.new.link) (g.L.Link.ahead c.end_turn.new.link) (g.C.Clock.ahead c.listen.new.clock) (total counts) l.0 c.end_turn.ensures.ahead l.2,
      turn_at c.listen.new.joiner c.end_turn.new.self (g.L.Link.sent c.listen.new.link) (g.L.Link.sent c.end_turn.new.link) c.end_turn.ensures.nonce joins sent c.args.joiner.now o.ahead (total counts) l.0 o.sent (events o.ahead counts) c.listen.ensures.nonce l.3 here,
    ))
    c.end_turn.ensures.joins c.end_turn.ensures.sent

pub returns-clause-went : goal.returns-clause-went
returns-clause-went g c =
    on_ok2 c.end_turn.result
    (λ joins sent first past at.
    let here = subst (λ (x : Option (List Datagram)). IsAt first c.args.joiner.now x past) (sym c.listen.ensures.unsent) at in
    turn_went c.listen.new.joiner c.end_turn.new.self (g.L.Link.sent c.listen.new.link) (g.L.Link.sent c.end_turn.new.link) c.end_turn.ensures.nonce joins sent c.args.joiner.now c.in_ok-listen.ensures.more first past here)
    c.end_turn.ensures.joins c.end_turn.ensures.sent
