use Rattle.std.proofs.Common.{◌∙◌, map, arith}
use Rattle.alone_server.specs.own_items.Items.{show_of}
use Rattle.relay_model.specs.Watching.{watched}
use Rattle.relay_model.specs.Items.{items_of}
use Rattle.relay_spectator.proofs.Posting.{few_counted}
use Rattle.relay_spectator.proofs.Feeding.{room, may_show, shown_then, watched_then}
use Rattle.relay_spectator.proofs.spectator.Spectator.scan.Goals as goal

pub begin-requires : goal.begin-requires
begin-requires c = let r = c.requires in room c.args.self.now r.terms r.events c.args.copies.now r.follows r.shown r.met

pub feed-requires : goal.feed-requires
feed-requires c =
    let r = c.requires in
    let few = few_counted r.terms r.events in
    let lt = r.met.few in
    record {
      terms = r.terms;
      items = items_of r.terms r.events;
      stands = r.follows.server;
      follows = may_show c.args.self.now r.terms r.events c.args.copies.now r.follows r.shown r.met c.from_vec.result c.from_vec-2.result (map show_of c.in-Ok.shows)
          (c.from_vec.ensures ∙ c.new.ensures.items) (c.from_vec-2.ensures ∙ c.new-2.ensures.items) (c.in-Ok.ensures.shows (watched r.events) r.follows.watch);
      few = omega (arith, few, lt, r.follows.server.counted);
    }

pub returns-clause-scans : goal.returns-clause-scans
returns-clause-scans c t events follows shown met =
    let me = c.args.self.now in
    let copies = c.args.copies.now in
    let hides = c.from_vec.ensures ∙ c.new.ensures.items in
    let nears = c.from_vec-2.ensures ∙ c.new-2.ensures.items in
    let shows = c.in-Ok.ensures.shows (watched events) follows.watch in
    let may = may_show me t events copies follows shown met c.from_vec.result c.from_vec-2.result (map show_of c.in-Ok.shows) hides nears shows in
    record {
      number = follows.number;
      server = shown_then me t events copies follows shown met c.from_vec.result c.from_vec-2.result (map show_of c.in-Ok.shows) hides nears shows
          c.feed.new.self (c.in_ok-told.ensures.stands t (items_of t events) follows.server may);
      stopped = follows.stopped;
      watch = watched_then me t events copies follows shown met c.begin.new.self (c.in-Ok.ensures.watched (watched events) follows.watch);
    }
