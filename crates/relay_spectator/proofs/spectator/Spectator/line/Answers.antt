use Rattle.std.proofs.Common.{◌∙◌, sym, arith}
use Rattle.relay_model.specs.Items.{items_of}
use Rattle.relay_spectator.proofs.Posting.{few_counted}
use Rattle.relay_spectator.proofs.Feeding.{stands_alone, not_refused}
use Rattle.relay_spectator.proofs.spectator.Spectator.line.Goals as goal

pub feed-requires : goal.feed-requires
feed-requires c =
    let m = c.requires.may in
    let few = few_counted m.terms m.events in
    let lt = m.met.few in
    record {
      terms = m.terms;
      items = items_of m.terms m.events;
      stands = m.follows.server;
      follows = stands_alone c.args.line c.requires.asked;
      few = omega (arith, few, lt, m.follows.server.counted);
    }

pub returns-clause-does : goal.returns-clause-does
returns-clause-does c t events follows met = record {
  number = follows.number;
  server = c.in_ok-told.ensures.stands t (items_of t events) follows.server (stands_alone c.args.line c.requires.asked);
  stopped = follows.stopped ∙ sym (not_refused t (items_of t events) c.args.line c.requires.asked);
  watch = follows.watch;
}
