use Rattle.std.proofs.Common.{◌∙◌, ap}
use Rattle.connection_lock.proofs.Holding.{fresh-locked}
use Rattle.connection_lock.proofs.locked.Locked.new.Goals as goal

pub invariant_of-locked : goal.invariant_of-locked
invariant_of-locked g c =
    fresh-locked g.N.LaneName.objects c.args.pair c.args.seat c.new-periods.result c.requires.no_steps c.steps-steps.ensures.replays c.requires.no_seat_steps c.new-periods.ensures.objects c.new-periods.ensures.kinds c.new-periods.ensures.up
    (c.new-periods.ensures.table ∙ c.kinds.ensures ∙ ap (λ k. k.masks.kinds) c.conn.ensures ∙ ap (λ p. p.conn.masks.kinds) c.pair.ensures)
