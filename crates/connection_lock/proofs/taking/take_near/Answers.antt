use Rattle.std.proofs.Common.{inl, refl}
use Rattle.kept_pair.specs.pair_core.History.{Near}
use Rattle.kept_pair.specs.Kept.{terms_in, newest_first}
use Rattle.pair_periods.proofs.Agreeing.{agree-near}
use Rattle.race_messages.specs.declared.message.Message.TheVariants as message
use Rattle.connection_lock.proofs.Keeping.{passed-over, locked-same, past-more, still-locked}
use Rattle.connection_lock.proofs.taking.take_near.Goals as goal

pub returns-then-may : goal.returns-then-may
returns-then-may g c =
    let e = c.step-answer.ensures in
    let met = c.may_come_near-may.ensures.0 c.if-may.true in
    record {
      takes = inl (
        (met, tt),
        record {
          past = past-more g.N.LaneName.objects c.args.pair.now c.step-answer.new.self c.args.seat.now c.args.seat.now c.args.periods.now c.args.periods.now c.requires.locked e.terms e.keeps (Near c.args.n c.args.level) e.kept;
          objects = refl;
          drains = refl;
        },
      );
      locked = still-locked g.N.LaneName.objects c.args.pair.now c.step-answer.new.self c.args.seat.now c.args.seat.now c.args.periods.now c.args.periods.now c.requires.locked e.terms e.keeps (Near c.args.n c.args.level) e.kept
          (locked-same (terms_in c.args.pair.now) g.N.LaneName.objects (newest_first c.args.pair.now.steps) c.args.seat.now.steps c.args.periods.now c.requires.locked.0 (Near c.args.n c.args.level)
          (agree-near (newest_first c.args.pair.now.steps) c.args.periods.now c.args.n c.args.level c.requires.locked.0.agree) tt);
      terms = e.terms;
      client = refl;
    }

pub returns-else-may : goal.returns-else-may
returns-else-may g c =
    passed-over g.N.LaneName.objects c.args.pair.now c.args.seat.now c.args.periods.now (message.Near c.args.n c.args.level) c.requires.locked
    (λ m. let yes = c.may_come_near-may.ensures.1 m.0 in let no = c.if-may.false in absurd (cc))
