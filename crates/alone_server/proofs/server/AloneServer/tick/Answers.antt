use Rattle.std.proofs.Common.{◌∙◌, ◌∷◌, List, length, map, refl, sym, ap, subst}
use Rattle.own_items.specs.client_seat.Stands.{SeatState, StandsFor as SeatStandsFor}
use Rattle.own_lists.specs.Course.{ticked}
use Rattle.own_lists.specs.Own.{Tick}
use Rattle.own_lists.specs.Kept.{kept}
use Rattle.alone_server.specs.declared.periods.OwnPeriod.{OwnPeriod}
use Rattle.own_items.specs.Items.{write_of}
use Rattle.alone_server.specs.Periods.{Holds}
use Rattle.alone_server.specs.Stands.{Serves, table_of}
use Rattle.alone_server.proofs.Mapped.{refilled}
use Rattle.alone_server.proofs.Feeding.{may_write_all, taken_few, tick_serves, none_taken, one_taken}
use Rattle.alone_server.proofs.server.AloneServer.tick.Goals as goal

pub write_each-requires : goal.write_each-requires
write_each-requires c =
    let me = c.args.self.now in
    let r = c.requires in
    let k = kept r.terms r.items in (
      me.shows,
      k,
      subst (λ (ps : List OwnPeriod). Holds (record { shows = me.shows; periods = ps }) k) (sym c.deref_mut.ensures.value) r.serves.periods,
      may_write_all me.client me.seat (table_of me) r.terms r.items r.serves (map write_of c.args.writes.now) r.follows.of_periods,
    )

pub take_move-move-requires : goal.take_move-move-requires
take_move-move-requires c =
    let me = c.args.self.now in let r = c.requires in taken_few me.client me.seat (table_of me) r.terms r.items r.serves

pub returns-then-taken-ne0-clause-goes : goal.returns-then-taken-ne0-clause-goes
returns-then-taken-ne0-clause-goes c = λ t items s may.
    let me = c.args.self.now in
    let k = kept t items in
    let writes = map write_of c.args.writes.now in
    let before = subst (λ (ps : List OwnPeriod). Holds (record { shows = me.shows; periods = ps }) k) (sym c.deref_mut.ensures.value) s.periods in
    let fill = refilled me.periods.len c.write_each.new.periods me.periods.items
    (c.write_each.auto.periods ∙ ap (λ (ps : List OwnPeriod). length ps) c.deref_mut.ensures.value ∙ sym me.periods.ok.0) (sym me.periods.ok.0) in
    subst (λ (ps : List OwnPeriod). Serves me.client c.take_move-move.new.self (record { shows = me.shows; periods = ps }) t (Tick writes c.args.taken ∷ items)) (sym fill)
    (tick_serves me.client me.seat (table_of me) t items s writes c.args.taken may c.take_move-move.new.self (record { shows = me.shows; periods = c.write_each.new.periods })
    (ap (λ (x : SeatState). x.pair.keeps_all) c.take_move-move.ensures.rest)
    (subst (λ (x : SeatState). SeatStandsFor x t (ticked c.args.taken k.course)) (sym c.take_move-move.ensures.rest)
    (one_taken me.client me.seat (table_of me) t items s writes c.args.taken may c.if-taken-ne0.true))
    (c.write_each.ensures me.shows k before))

pub returns-else-taken-ne0-clause-goes : goal.returns-else-taken-ne0-clause-goes
returns-else-taken-ne0-clause-goes c = λ t items s may.
    let me = c.args.self.now in
    let k = kept t items in
    let writes = map write_of c.args.writes.now in
    let before = subst (λ (ps : List OwnPeriod). Holds (record { shows = me.shows; periods = ps }) k) (sym c.deref_mut.ensures.value) s.periods in
    let fill = refilled me.periods.len c.write_each.new.periods me.periods.items
    (c.write_each.auto.periods ∙ ap (λ (ps : List OwnPeriod). length ps) c.deref_mut.ensures.value ∙ sym me.periods.ok.0) (sym me.periods.ok.0) in
    subst (λ (ps : List OwnPeriod). Serves me.client me.seat (record { shows = me.shows; periods = ps }) t (Tick writes c.args.taken ∷ items)) (sym fill)
    (tick_serves me.client me.seat (table_of me) t items s writes c.args.taken may me.seat (record { shows = me.shows; periods = c.write_each.new.periods }) refl
    (none_taken me.client me.seat (table_of me) t items s writes c.args.taken may c.if-taken-ne0.false)
    (c.write_each.ensures me.shows k before))
