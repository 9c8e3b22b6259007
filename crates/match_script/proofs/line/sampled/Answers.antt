use Rattle.std.proofs.Common.{arith}
use Rattle.std.proofs.lemmas.Int.{ints}
use Rattle.match_script.proofs.MoveLines.{move_sampled}
use Rattle.match_script.proofs.line.sampled.Goals as goal

pub returns-clause-value : goal.returns-clause-value
returns-clause-value c =
    move_sampled c.args.clients c.args.c.now c.args.dx.now c.args.dy.now c.args.fire.now c.args.act.now
    c.in_ok-client.client c.in_ok-dx.dx c.in_ok-dy.dy c.in_ok-fire.fire c.in_ok-act.act c.moved-m.result
    c.in_ok-client.ensures.value c.in_ok-dx.ensures c.in_ok-dy.ensures c.in_ok-fire.ensures c.in_ok-act.ensures
    (omega (arith, ints, c.moved-m.ensures.dx, c.in_ok-dx.ensures.0)) (omega (arith, ints, c.moved-m.ensures.dy, c.in_ok-dy.ensures.0)) c.moved-m.ensures.fire c.moved-m.ensures.act
