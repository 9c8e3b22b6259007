use Rattle.plain_race.proofs.Whole.{legal}
use Rattle.plain_race.proofs.plain.plain_race.Goals as goal

pub returns : goal.returns
returns c = record {
  legal = legal c.args.script.now c.requires.ranges (record { values = c.in_ok-values.values; moves = c.in_ok-moves.moves; words = c.in_ok-words.words; clients = c.in_ok-clients.clients })
      c.in_ok-moves.ensures c.in_ok-values.ensures c.in_ok-words.ensures.objects c.in_ok-words.ensures.clients c.in_ok-clients.ensures.count c.in_ok-clients.ensures.each;
  idle = c.in_ok-moves.ensures;
}
