use Rattle.std.proofs.Common.{arith}
use Rattle.kept_pair.specs.Kept.{newest_first, terms_in}
use Rattle.pair_steps.specs.Steps.{shows_in}
use Rattle.race_reads.proofs.ShownPeriods.{up_shown, period_decided}
use Rattle.race_reads.proofs.current.period_is_current.Goals as goal

pub fields_are_current-requires : goal.fields_are_current-requires
fields_are_current-requires c = let lt = up_shown (newest_first c.args.pair.now.steps) c.args.n c.requires.up in let long = c.requires.last.long in omega (arith, lt, long)

pub returns : goal.returns
returns c =
    let past = newest_first c.args.pair.now.steps in
    period_decided c.args.values.now c.args.words.now c.args.client (terms_in c.args.pair.now) c.args.pair.now.steps c.args.objects.now c.args.n c.in-Some.object c.word_of-word.result c.due_bits-due.result (shows_in past) c.args.last.now
    c.in-Some.ensures.0 c.in-Some.ensures.1 c.requires.objects c.requires.fields c.word_of-word.ensures c.due_bits-due.ensures c.requires.last (up_shown past c.args.n c.requires.up)
    c.fields_are_current.result c.fields_are_current.ensures
