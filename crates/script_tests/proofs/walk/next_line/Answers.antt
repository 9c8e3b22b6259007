use Rattle.std.proofs.Common.{reverse, take}
use Rattle.match_engine.proofs.Continued.{few_done}
use Rattle.script_tests.proofs.walk.next_line.Goals as goal

pub next-requires : goal.next-requires
next-requires c =
    let m = c.args.game.now in
    let past = take m.place m.script.body in
    record {
      stands = (reverse past, c.requires.played);
      ranges = c.requires.ranges;
      few = few_done m c.requires.played c.requires.ranges;
    }
