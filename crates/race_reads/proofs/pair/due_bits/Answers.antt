use Rattle.std.proofs.Common.{◌∙◌, ap}
use Rattle.pair_core.specs.Stands.{PairState}
use Rattle.race_reads.proofs.ToldPeriods.{alive, due_are}
use Rattle.race_reads.proofs.pair.due_bits.Goals as goal

pub due_bits-requires : goal.due_bits-requires
due_bits-requires c =
    alive c.args.pair.now.pair c.args.pair.now.steps c.steps-steps.ensures.replays c.conn.result.now (c.conn.ensures ∙ ap (λ (p : PairState). p.conn) c.pair.ensures) c.args.n c.requires

pub returns : goal.returns
returns c =
    due_are c.args.pair.now.pair c.args.pair.now.steps c.steps-steps.ensures.replays c.conn.result.now (c.conn.ensures ∙ ap (λ (p : PairState). p.conn) c.pair.ensures) c.args.n c.due_bits.result c.due_bits.ensures.told
