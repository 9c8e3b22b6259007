use Rattle.std.proofs.Common.{◌∙◌, ap}
use Rattle.pair_core.specs.Stands.{PairState}
use Rattle.race_reads.proofs.ToldPeriods.{up_is}
use Rattle.race_reads.proofs.pair.is_up.Goals as goal

pub returns : goal.returns
returns c =
    up_is c.args.pair.now.pair c.args.pair.now.steps c.steps-steps.ensures.replays c.conn.result.now (c.conn.ensures ∙ ap (λ (p : PairState). p.conn) c.pair.ensures) c.args.n c.is_up.result c.is_up.ensures.up
