use Rattle.std.proofs.Common.{◌∙◌, ◌∷◌, ◌++◌, ◌<◌, [], List, sym, ap, subst, refl}
use Rattle.std.specs.Prelude.{slice_index}
use Rattle.tn_types.specs.declared.choices.Drain.{Drain}
use Rattle.stream_manager.specs.Limits.{Terms}
use Rattle.stream_manager.specs.Server.{server_state}
use Rattle.kept_pair.specs.pair_core.History.{PairStep, Pack}
use Rattle.kept_pair.specs.pair_core.Conditions.{AreMet}
use Rattle.kept_pair.specs.pair_core.Answers.{answer}
use Rattle.kept_pair.specs.Kept.{terms_in, newest_first}
use Rattle.lane_periods.proofs.Owed.{reads-entered, reads-pay, reads-drain}
use Rattle.pair_periods.specs.Agreement.{server_log}
use Rattle.pair_periods.proofs.Agreeing.{agree-ranges}
use Rattle.connection_lock.specs.Turns.{DrainsAt}
use Rattle.connection_lock.proofs.Keeping.{past-more, still-locked, locked-pack}
use Rattle.connection_lock.proofs.Drained.{are-drains}
use Rattle.connection_lock.proofs.packing.pack.Goals as goal

pub pack_read-answer-requires-clause-may : goal.pack_read-answer-requires-clause-may
pack_read-answer-requires-clause-may g c =
    let l = c.requires.locked.0 in
    let drained = subst (λ (ds : List Drain). DrainsAt (server_state (terms_in c.args.pair.now).config (server_log (terms_in c.args.pair.now) (newest_first c.args.pair.now.steps))) c.args.periods.now c.args.seat.now.steps c.drain.new.seat.steps ds) (sym c.as_slice.ensures.value) c.drain.ensures.drains in
    let d = are-drains (terms_in c.args.pair.now) g.N.LaneName.objects (newest_first c.args.pair.now.steps) c.args.seat.now.steps c.args.periods.now c.requires.locked.0 c.are_periods.ensures
    (server_state (terms_in c.args.pair.now).config (server_log (terms_in c.args.pair.now) (newest_first c.args.pair.now.steps))) c.drain.new.seat.steps c.as_slice.result.now drained in
    record {
      drained = d.may;
      ranged = agree-ranges (terms_in c.args.pair.now) (newest_first c.args.pair.now.steps) c.args.periods.now c.args.lanes.now.objects l.agree l.table
          (λ n h. subst (λ m. slice_index c.args.periods.now.objects n < m) (sym c.objects-objects.ensures.named ∙ c.objects-objects.ensures.value) (l.there n h));
    }

pub returns-clause-packs : goal.returns-clause-packs
returns-clause-packs g c =
    let told = c.pack_read-answer.ensures.told in
    let e = c.pack_read-answer.ensures in
    let drained = subst (λ (ds : List Drain). DrainsAt (server_state (terms_in c.args.pair.now).config (server_log (terms_in c.args.pair.now) (newest_first c.args.pair.now.steps))) c.args.periods.now c.args.seat.now.steps c.drain.new.seat.steps ds) (sym c.as_slice.ensures.value) c.drain.ensures.drains in
    let d = are-drains (terms_in c.args.pair.now) g.N.LaneName.objects (newest_first c.args.pair.now.steps) c.args.seat.now.steps c.args.periods.now c.requires.locked.0 c.are_periods.ensures
    (server_state (terms_in c.args.pair.now).config (server_log (terms_in c.args.pair.now) (newest_first c.args.pair.now.steps))) c.drain.new.seat.steps c.as_slice.result.now drained in
    record {
      words = d.words;
      reads = told.0;
      taken = d.taken;
      past = past-more g.N.LaneName.objects c.args.pair.now c.pack_read-answer.new.pair c.args.seat.now c.pack_read-answer.new.seat c.args.periods.now c.args.periods.now c.requires.locked e.terms e.keeps (Pack c.as_slice.result.now told.0) told.1
          ∙ ap (λ (ds : List Drain). Pack ds told.0 ∷ newest_first c.args.pair.now.steps) d.own;
      drained = reads-drain c.args.periods.now c.drain.new.seat.steps c.pack_read-answer.new.seat.steps told.0 told.2 ∙ d.entered;
      objects = refl;
      answer = e.answer ∙ ap (λ (ds : List Drain). answer (terms_in c.args.pair.now) (newest_first c.args.pair.now.steps) (Pack ds [])) d.own;
    }

pub returns-clause-locked : goal.returns-clause-locked
returns-clause-locked g c =
    let told = c.pack_read-answer.ensures.told in
    let e = c.pack_read-answer.ensures in
    let masks = c.steps-steps.ensures.replays.stands.conn.masks in
    let drained = subst (λ (ds : List Drain). DrainsAt (server_state (terms_in c.args.pair.now).config (server_log (terms_in c.args.pair.now) (newest_first c.args.pair.now.steps))) c.args.periods.now c.args.seat.now.steps c.drain.new.seat.steps ds) (sym c.as_slice.ensures.value) c.drain.ensures.drains in
    let d = are-drains (terms_in c.args.pair.now) g.N.LaneName.objects (newest_first c.args.pair.now.steps) c.args.seat.now.steps c.args.periods.now c.requires.locked.0 c.are_periods.ensures
    (server_state (terms_in c.args.pair.now).config (server_log (terms_in c.args.pair.now) (newest_first c.args.pair.now.steps))) c.drain.new.seat.steps c.as_slice.result.now drained in
    let past = past-more g.N.LaneName.objects c.args.pair.now c.pack_read-answer.new.pair c.args.seat.now c.pack_read-answer.new.seat c.args.periods.now c.args.periods.now c.requires.locked e.terms e.keeps (Pack c.as_slice.result.now told.0) told.1 in
    let met = subst (λ (x : Terms × List PairStep). AreMet x.0 x.1) (λ j. (e.terms j, past j)) c.steps-after.ensures.replays.met in
    let mid = c.drain.new.seat.steps in
    let new = c.pack_read-answer.new.seat.steps in
    still-locked g.N.LaneName.objects c.args.pair.now c.pack_read-answer.new.pair c.args.seat.now c.pack_read-answer.new.seat c.args.periods.now c.args.periods.now c.requires.locked e.terms e.keeps (Pack c.as_slice.result.now told.0) told.1
    (locked-pack (terms_in c.args.pair.now) g.N.LaneName.objects (newest_first c.args.pair.now.steps) c.args.seat.now.steps c.drain.new.seat.steps c.pack_read-answer.new.seat.steps c.args.periods.now c.requires.locked.0 c.as_slice.result.now told.0
    masks.table masks.legal met.0 d.owed (reads-pay c.args.periods.now mid new told.0 told.2 c.are_periods.ensures)
    told.2.added (reads-entered c.args.periods.now mid new told.0 told.2 ∙ ap (λ l. l ++ told.2.added) d.read) told.2.each)
