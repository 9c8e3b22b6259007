use Rattle.std.proofs.Common.{◌∙◌, ap}
use Rattle.pair_core.specs.Stands.{PairState}
use Rattle.race_reads.proofs.ToldPeriods.{shows_are}
use Rattle.race_reads.proofs.pair.shows.Goals as goal

pub returns : goal.returns
returns c =
    shows_are c.args.pair.now.pair c.args.pair.now.steps c.steps-steps.ensures.replays c.conn.result.now (c.conn.ensures ∙ ap (λ (p : PairState). p.conn) c.pair.ensures) c.shows.result c.shows.ensures.told
