use Rattle.std.proofs.Common.{◌≡◌, ◌∷◌, ◌<◌, false, inl, ap, sym, subst, arith, ℕ, List}
use Rattle.dirty_lanes.specs.Views.{drains}
use Rattle.dirty_lanes.specs.declared.view.PackView.{PackView}
use Rattle.kept_pair.specs.pair_core.History.{Show}
use Rattle.kept_pair.specs.Kept.{terms_in, newest_first}
use Rattle.lane_periods.specs.Periods.{has_object}
use Rattle.connection_lock.specs.Rule.{IsLocked}
use Rattle.race_messages.specs.declared.message.Message.TheVariants as message
use Rattle.connection_lock.proofs.Keeping.{passed-over, locked-show, past-more, still-locked, few-periods}
use Rattle.connection_lock.proofs.taking.take_show.Goals as goal

pub show-requires-clause-free : goal.show-requires-clause-free
show-requires-clause-free g c = (c.may_take_show-may.ensures.0 c.if-may.true).2

pub show-requires-clause-few : goal.show-requires-clause-few
show-requires-clause-few g c =
    let few = few-periods (terms_in c.args.pair.now) g.N.LaneName.objects c.args.pair.now.steps c.args.seat.now.steps c.args.periods.now c.requires.locked.0 c.steps-steps.ensures.replays.few in omega arith

pub returns-then-may : goal.returns-then-may
returns-then-may g c =
    let e = c.step-answer.ensures in
    let h = c.show.ensures in
    let may = c.may_take_show-may.ensures.0 c.if-may.true in
    let there : c.args.show.object < g.N.LaneName.objects = subst (λ n. c.args.show.object < n) c.objects-objects.ensures.named may.1 in
    let view = ap (λ (v : PackView). v.steps) c.drain-discarded.ensures.step in
    record {
      takes = inl (
        (may.0, (there, subst (λ (up : List ℕ). has_object c.args.periods.now.objects up c.args.show.object ≡ false) c.requires.locked.0.agree.up may.2)),
        record {
          past = past-more g.N.LaneName.objects c.args.pair.now c.step-answer.new.self c.args.seat.now c.drain-discarded.new.self c.args.periods.now c.show.new.self c.requires.locked e.terms e.keeps (Show c.args.show.kind c.args.show.block c.args.show.level c.args.show.control) e.kept;
          objects = h.objects;
          drains = (c.drain-discarded.result, ap drains view);
        },
      );
      locked = still-locked g.N.LaneName.objects c.args.pair.now c.step-answer.new.self c.args.seat.now c.drain-discarded.new.self c.args.periods.now c.show.new.self c.requires.locked e.terms e.keeps (Show c.args.show.kind c.args.show.block c.args.show.level c.args.show.control) e.kept
          (subst (λ v. IsLocked (terms_in c.args.pair.now) g.N.LaneName.objects (Show c.args.show.kind c.args.show.block c.args.show.level c.args.show.control ∷ newest_first c.args.pair.now.steps) v c.show.new.self) (sym view)
          (locked-show (terms_in c.args.pair.now) g.N.LaneName.objects (newest_first c.args.pair.now.steps) c.args.seat.now.steps c.args.periods.now c.show.new.self c.requires.locked.0 c.are_periods.ensures
          c.steps-steps.ensures.replays.met c.args.show.object c.args.show.kind c.args.show.block c.args.show.level c.args.show.control c.drain-discarded.result there may.2 h.objects h.kinds h.up h.table));
      terms = e.terms;
      client = ap (λ (v : PackView). v.client) c.drain-discarded.ensures.step;
    }

pub returns-else-may : goal.returns-else-may
returns-else-may g c =
    passed-over g.N.LaneName.objects c.args.pair.now c.args.seat.now c.args.periods.now (message.Show c.args.show.object c.args.show.kind c.args.show.block c.args.show.level c.args.show.control) c.requires.locked
    (λ m. let yes = c.may_take_show-may.ensures.1 (m.0, subst (λ n. c.args.show.object < n) (sym c.objects-objects.ensures.named) m.1.0, subst (λ (up : List ℕ). has_object c.args.periods.now.objects up c.args.show.object ≡ false) (sym c.requires.locked.0.agree.up) m.1.1) in let no = c.if-may.false in absurd (cc))
