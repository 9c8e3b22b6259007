use Rattle.std.proofs.Common.{◌++◌, ◌∷◌, [], sym, ◌∙◌, subst}
use Rattle.connection_lock.specs.Rule.{terms_of, progress_in}
use Rattle.connection_lock.specs.Taking.{Takes}
use Rattle.connection_lock.proofs.Keeping.{takes-push}
use Rattle.race_ending.proofs.Taken.{one-more, no-more}
use Rattle.race_ending.proofs.left.take_waiting.Goals as goal

pub each-preserved : goal.each-preserved
each-preserved g c =
    let inv = c.each.invariant in
    let turn = c.in_ok-take_one.ensures.turn in
    let m = c.in-Some.message in
    let takes = subst (λ t. Takes t g.N.LaneName.objects (progress_in c.each.locked) m (progress_in c.take_one.new.self)) inv.terms turn.takes in
    record {
      taken = (
        inv.taken.0 ++ m ∷ [],
        one-more c.args.waiting.now inv.taken.0 c.each.waiting c.take.new.self m inv.taken.1 (sym c.take.ensures.first ∙ c.in-Some.is) c.take.ensures.rest,
        takes-push (terms_of c.args.locked.now) g.N.LaneName.objects (progress_in c.args.locked.now) (progress_in c.each.locked)
            (progress_in c.take_one.new.self) inv.taken.0 m inv.taken.2 takes,
      );
      received = turn.received ∙ inv.received;
      terms = turn.terms ∙ inv.terms;
      client = turn.client ∙ inv.client;
    }

pub returns-clause-taken : goal.returns-clause-taken
returns-clause-taken g c =
    let inv = c.each.invariant in
    (inv.taken.0, c.each.waiting, inv.taken.1, no-more c.args.waiting.now inv.taken.0 c.each.waiting inv.taken.1 (sym c.take.ensures.first ∙ c.in_default.is), inv.taken.2)
