use Rattle.std.proofs.Common.{◌≡◌, ◌∙◌, ◌++◌, ◌∷◌, [], List, ap, subst, arith, append_assoc, length-append}
use Rattle.rtrb.specs.Ring.{received}
use Rattle.stream_manager.specs.Limits.{Terms}
use Rattle.stream_manager.specs.Stands.{terms_of}
use Rattle.kept_pair.specs.Kept.{terms_in}
use Rattle.race_messages.specs.declared.message.Message.{Message}
use Rattle.connection_lock.specs.Taking.{Progress, Takes}
use Rattle.connection_lock.specs.Rule.{progress_of}
use Rattle.connection_lock.proofs.Keeping.{prepared-locked, prepared-progress, takes-push}
use Rattle.connection_lock.proofs.taking.take_messages.Goals as goal

pub returns-in_err-prepare-clause-locked : goal.returns-in_err-prepare-clause-locked
returns-in_err-prepare-clause-locked g c =
    let e = c.prepare.ensures in
    prepared-locked g.N.LaneName.objects c.loop.pair c.prepare.new.pair c.loop.seat c.loop.periods c.prepare.new.periods e.steps e.conn e.client e.same c.loop.invariant.locked

pub take-requires-clause-locked : goal.take-requires-clause-locked
take-requires-clause-locked g c =
    let e = c.prepare.ensures in
    prepared-locked g.N.LaneName.objects c.loop.pair c.prepare.new.pair c.loop.seat c.loop.periods c.prepare.new.periods e.steps e.conn e.client e.same c.loop.invariant.locked

pub returns-in-Err-clause-locked : goal.returns-in-Err-clause-locked
returns-in-Err-clause-locked g c =
    let e = c.prepare.ensures in
    prepared-locked g.N.LaneName.objects c.loop.pair c.prepare.new.pair c.loop.seat c.loop.periods c.prepare.new.periods e.steps e.conn e.client e.same c.loop.invariant.locked

pub loop-preserved : goal.loop-preserved
loop-preserved g c =
    let e = c.prepare.ensures in
    let i = c.loop.invariant in
    let terms : terms_in c.prepare.new.pair ≡ terms_in c.args.pair.now = ap terms_of e.conn ∙ i.terms in
    let progress = prepared-progress g.N.LaneName.objects c.loop.pair c.prepare.new.pair c.loop.seat c.loop.periods c.prepare.new.periods e.steps e.conn e.client e.same in
    record {
      locked = c.take.ensures.locked;
      terms = c.take.ensures.terms ∙ terms;
      client = c.take.ensures.client ∙ i.client;
      taken = (
        i.taken.0 ++ c.in-Ok.message ∷ [],
        c.in-Ok.ensures.ok.0 ∙ ap (λ (l : List Message). l ++ c.in-Ok.message ∷ []) i.taken.1 ∙ append_assoc (received c.args.inbox.now) i.taken.0 (c.in-Ok.message ∷ []),
        takes-push (terms_in c.args.pair.now) g.N.LaneName.objects (progress_of c.args.pair.now c.args.seat.now c.args.periods.now.objects) (progress_of c.loop.pair c.loop.seat c.loop.periods.objects)
            (progress_of c.take.new.pair c.take.new.seat c.take.new.periods.objects) i.taken.0 c.in-Ok.message i.taken.2
            (subst (λ (x : Terms × Progress). Takes x.0 g.N.LaneName.objects x.1 c.in-Ok.message (progress_of c.take.new.pair c.take.new.seat c.take.new.periods.objects)) (λ j. (terms j, progress j)) c.take.ensures.takes),
        omega (arith, i.taken.3, length-append i.taken.0 (c.in-Ok.message ∷ [])),
      );
    }
