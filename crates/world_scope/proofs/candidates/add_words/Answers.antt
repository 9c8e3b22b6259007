use Rattle.std.proofs.Common.{arith}
use Rattle.world_cells.specs.Grid.{lies_between}
use Rattle.world_scope.proofs.Sets.{no_words, more_words, all_words}
use Rattle.world_scope.proofs.candidates.add_words.Goals as goal

pub loop-word-init : goal.loop-word-init
loop-word-init c = no_words (lies_between c.args.columns.0 c.args.columns.1 c.args.rows.0 c.args.rows.1) c.args.world.now.objects c.args.words.now

pub loop-word-preserved : goal.loop-word-preserved
loop-word-preserved c =
    more_words c.loop-word.word c.between.result (lies_between c.args.columns.0 c.args.columns.1 c.args.rows.0 c.args.rows.1) c.args.world.now.objects c.args.words.now c.loop-word.words c.join.new.self c.between.ensures c.join.ensures c.loop-word.invariant

pub returns : goal.returns
returns c = λ p those.
    all_words c.loop-word.word p (lies_between c.args.columns.0 c.args.columns.1 c.args.rows.0 c.args.rows.1) c.args.world.now.objects c.args.words.now c.loop-word.words (omega (arith, c.words_of-many.ensures.all, c.loop-word.auto.word-end, c.loop-word-test.false)) c.loop-word.invariant those
