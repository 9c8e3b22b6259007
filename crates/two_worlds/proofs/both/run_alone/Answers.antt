use Rattle.std.proofs.Common.{refl, arith}
use Rattle.two_worlds.proofs.WholeText.{nothing_written}
use Rattle.two_worlds.proofs.both.run_alone.Goals as goal

pub returns-then-client-script : goal.returns-then-client-script
returns-then-client-script g c = record {
  lines = nothing_written c.args.script.now c.args.client (g.K.Sink.written c.args.sink.now) (omega (arith, c.if-client-script.true));
  front = tt;
  cause = record { later = omega arith; failed = λ e. absurd (cc); spared = λ e. refl };
  packs = c.writes_the_packs.ensures;
  same = c.same_lists_same_lines.ensures;
}

pub returns : goal.returns
returns g c = record {
  lines = c.feed_all.ensures.lines;
  front = c.feed_all.ensures.front;
  cause = c.feed_all.ensures.cause;
  packs = c.writes_the_packs.ensures;
  same = c.same_lists_same_lines.ensures;
}
