use Rattle.std.proofs.Common.{inl, refl}
use Rattle.kept_pair.specs.pair_core.History.{Hide}
use Rattle.kept_pair.specs.Kept.{terms_in, newest_first}
use Rattle.race_messages.specs.declared.message.Message.TheVariants as message
use Rattle.connection_lock.proofs.Keeping.{passed-over, locked-hide, past-more, still-locked}
use Rattle.connection_lock.proofs.taking.take_hide.Goals as goal

pub returns-then-may : goal.returns-then-may
returns-then-may g c =
    let k = c.args.pair.now in
    let e = c.step-answer.ensures in
    let h = c.hide.ensures in
    let met = c.may_hide-may.ensures.0 c.if-may.true in
    record {
      takes = inl (
        (met, tt),
        record {
          past = past-more g.N.LaneName.objects c.args.pair.now c.step-answer.new.self c.args.seat.now c.args.seat.now c.args.periods.now c.hide.new.self c.requires.locked e.terms e.keeps (Hide c.args.n) e.kept;
          objects = h.objects;
          drains = refl;
        },
      );
      locked = still-locked g.N.LaneName.objects c.args.pair.now c.step-answer.new.self c.args.seat.now c.args.seat.now c.args.periods.now c.hide.new.self c.requires.locked e.terms e.keeps (Hide c.args.n) e.kept
          (locked-hide (terms_in c.args.pair.now) g.N.LaneName.objects (newest_first c.args.pair.now.steps) c.args.seat.now.steps c.args.periods.now c.hide.new.self c.requires.locked.0 c.args.n h.objects h.kinds h.up h.table);
      terms = e.terms;
      client = refl;
    }

pub returns-else-may : goal.returns-else-may
returns-else-may g c =
    passed-over g.N.LaneName.objects c.args.pair.now c.args.seat.now c.args.periods.now (message.Hide c.args.n) c.requires.locked
    (λ m. let yes = c.may_hide-may.ensures.1 m.0 in let no = c.if-may.false in absurd (cc))
