use Rattle.std.proofs.Common.{inl, refl}
use Rattle.kept_pair.specs.pair_core.History.{Post}
use Rattle.kept_pair.specs.Kept.{terms_in, newest_first}
use Rattle.pair_periods.proofs.Agreeing.{agree-quiet}
use Rattle.connection_lock.proofs.Keeping.{locked-same, past-more, still-locked}
use Rattle.connection_lock.proofs.taking.take_post.Goals as goal

pub returns : goal.returns
returns g c =
    let e = c.step-answer.ensures in
    record {
      takes = inl (
        (tt, tt),
        record {
          past = past-more g.N.LaneName.objects c.args.pair.now c.step-answer.new.self c.args.seat.now c.args.seat.now c.args.periods.now c.args.periods.now c.requires.locked e.terms e.keeps (Post c.args.class c.args.payload) e.kept;
          objects = refl;
          drains = refl;
        },
      );
      locked = still-locked g.N.LaneName.objects c.args.pair.now c.step-answer.new.self c.args.seat.now c.args.seat.now c.args.periods.now c.args.periods.now c.requires.locked e.terms e.keeps (Post c.args.class c.args.payload) e.kept
          (locked-same (terms_in c.args.pair.now) g.N.LaneName.objects (newest_first c.args.pair.now.steps) c.args.seat.now.steps c.args.periods.now c.requires.locked.0 (Post c.args.class c.args.payload)
          (agree-quiet (newest_first c.args.pair.now.steps) (Post c.args.class c.args.payload) c.args.periods.now tt c.requires.locked.0.agree) tt);
      terms = e.terms;
      client = refl;
    }
