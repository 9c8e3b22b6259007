use Rattle.std.proofs.Common.{◌++◌, ◌∙◌, ap}
use Rattle.race_text.specs.Text.{mask_line}
use Rattle.race_text.proofs.Each.{each_more}
use Rattle.race_text.proofs.words.put_client.Goals as goal

pub loop-object-preserved : goal.loop-object-preserved
loop-object-preserved c = record {
  added =
      c.in_ok-put_word.ensures.added
      ∙ ap (λ l. l ++ mask_line c.args.words.now c.args.client c.loop-object.object) c.loop-object.invariant.added
      ∙ each_more (mask_line c.args.words.now c.args.client) c.loop-object.object c.args.text.now.added;
  before = c.put_word.ensures.before ∙ c.loop-object.invariant.before;
}
