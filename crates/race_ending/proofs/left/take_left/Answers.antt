use Rattle.std.proofs.Common.{◌∙◌, subst}
use Rattle.connection_lock.specs.Rule.{terms_of, progress_in}
use Rattle.connection_lock.specs.Taking.{TakesAll}
use Rattle.race_ending.proofs.Taken.{takes-both}
use Rattle.race_ending.proofs.left.take_left.Goals as goal

pub returns : goal.returns
returns g c =
    let turn = c.take_rest.ensures.turn in
    let more = c.take_waiting.ensures in
    record {
      ring = turn.messages;
      behind = more.taken.0;
      rest = more.taken.1;
      received = more.received ∙ turn.received;
      parts = more.taken.2;
      all = more.taken.3;
      takes = takes-both (terms_of c.args.locked.now) g.N.LaneName.objects (progress_in c.args.locked.now) (progress_in c.take_rest.new.self)
          (progress_in c.take_waiting.new.locked) turn.messages more.taken.0 turn.takes
          (subst (λ t. TakesAll t g.N.LaneName.objects (progress_in c.take_rest.new.self) more.taken.0 (progress_in c.take_waiting.new.locked)) turn.terms more.taken.4);
      terms = more.terms ∙ turn.terms;
      client = more.client ∙ turn.client;
      fault = more.fault;
    }
