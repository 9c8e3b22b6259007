use Rattle.std.proofs.Common.{subst}
use Rattle.net_rules.proofs.ByAnswer.{always_ok}
use Rattle.net_join.specs.Playing.{PlayerState, PlaysOn}
use Rattle.net_join.proofs.Ends.{sampled_becomes, turn_plays}
use Rattle.net_join.proofs.player.Player.play.Goals as goal

pub returns-clause-plays : goal.returns-clause-plays
returns-clause-plays g c =
    let inside : PlayerState = record { end = c.self.inside.end; moves = c.self.inside.moves } in
    let new : PlayerState = record { end = c.send_packed.new.end; moves = c.draw_move-m.new.rng } in
    let s = c.sample.ensures in
    let sampled = sampled_becomes c.self.inside.end c.sample.new.self c.draw_move-m.result c.sample.result s.answer s.stands s.unchanged in
    always_ok c.send_packed.result
    (subst (λ (p : PlayerState). PlaysOn p new) c.self.view_is
    (turn_plays inside c.sample.new.self c.send_packed.new.end c.draw_move-m.result c.draw_move-m.new.rng c.draw_move-m.ensures sampled s.keeps c.send_packed.ensures.packs c.send_packed.ensures.keeps))
