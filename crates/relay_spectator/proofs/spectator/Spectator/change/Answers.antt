use Rattle.std.proofs.Common.{map}
use Rattle.std.specs.Prelude.{Result, Ok, Err, OnOk}
use Rattle.alone_server.specs.own_items.Items.{write_of}
use Rattle.relay_model.specs.Items.{items_of}
use Rattle.relay_spectator.proofs.Feeding.{may_end, ended, left}
use Rattle.relay_spectator.proofs.spectator.Spectator.change.Goals as goal

map-ok : {T E P Q : Type 0} (r : Result T E) → (P → Q) → OnOk r P → OnOk r Q
map-ok (Ok x) f p = f p
map-ok (Err e) f p = tt

pub feed_both-requires : goal.feed_both-requires
feed_both-requires c =
    let r = c.requires in
    record {
      terms = r.terms;
      items = items_of r.terms r.events;
      may = may_end c.args.self.now r.terms r.packet r.events c.args.killed.now c.args.changed.now r.follows r.is c.in_ok-hides.hides (map write_of c.in_ok-hides.writes)
          c.in_ok-hides.ensures.hides c.in_ok-hides.ensures.writes;
    }

pub returns : goal.returns
returns c = map-ok c.feed_both.result (λ feeds t p events follows is.
    let hides = c.in_ok-hides.hides in
    let writes = map write_of c.in_ok-hides.writes in
    let may = may_end c.args.self.now t p events c.args.killed.now c.args.changed.now follows is hides writes c.in_ok-hides.ensures.hides c.in_ok-hides.ensures.writes in
    record {
      number = follows.number;
      server = ended c.args.self.now t p events c.args.killed.now c.args.changed.now follows is hides writes c.in_ok-hides.ensures.hides c.in_ok-hides.ensures.writes
          c.feed_both.new.server (feeds t (items_of t events) may);
      stopped = follows.stopped;
      watch = left c.args.self.now t p events c.args.killed.now c.args.changed.now follows is c.leave.new.self c.leave.ensures.periods c.leave.ensures.shows;
    }) c.feed_both.ensures
