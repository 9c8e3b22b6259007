use Rattle.std.proofs.Common.{Option, Some, sym, subst}
use Rattle.tn_outside.specs.Totals.{AddsFront}
use Rattle.match_report.specs.declared.told.Told.{Told}
use Rattle.alone_server.specs.own_items.Items.{item_of}
use Rattle.alone_server.specs.Stands as server
use Rattle.two_worlds.proofs.Writing.{writes, map_err}
use Rattle.two_worlds.proofs.alone.Alone.feed.Goals as goal

pub returns-clause-front : goal.returns-clause-front
returns-clause-front g c =
    let tells : server.Tells c.args.self.now.server (item_of c.args.item.now) (Some c.in-Some.told) =
    subst (λ (o : Option Told). server.Tells c.args.self.now.server (item_of c.args.item.now) o) c.in-Some.is c.in-Ok.ensures.told in
    map_err c.tell.result (writes c.args.self.now (item_of c.args.item.now) c.in-Some.told (sym c.if-not-is_pack.ensures) tells AddsFront (g.K.Sink.written c.args.sink.now) (g.K.Sink.written c.tell.new.sink)) c.tell.ensures.front
