use Rattle.std.proofs.Common.{sym, subst}
use Rattle.net_join.specs.Playing.{PlayerState, Plays}
use Rattle.net_join.proofs.Ends.{heard_plays}
use Rattle.net_join.proofs.player.Player.hear.Goals as goal

pub returns : goal.returns
returns c config log drawn h =
    let e = c.arrive.ensures in let d = c.drop_events.ensures in
    let inside : PlayerState = record { end = c.self.inside.end; moves = c.self.inside.moves } in
    heard_plays inside c.arrive.new.self c.drop_events.new.end c.args.bytes.now e.stands e.terms d.stands d.terms d.none config log drawn
    (subst (λ (p : PlayerState). Plays p config log drawn) (sym c.self.view_is) h)
