use Rattle.std.proofs.Common.{◌++◌, ◌∙◌, ap}
use Rattle.race_text.specs.Text.{field_line}
use Rattle.race_text.proofs.Each.{each_more}
use Rattle.race_text.proofs.history.put_object.Goals as goal

pub loop-field-preserved : goal.loop-field-preserved
loop-field-preserved c = record {
  added =
      c.in_ok-put_field.ensures.added
      ∙ ap (λ l. l ++ field_line c.args.values.now c.args.object c.loop-field.field) c.loop-field.invariant.added
      ∙ each_more (field_line c.args.values.now c.args.object) c.loop-field.field c.args.text.now.added;
  before = c.put_field.ensures.before ∙ c.loop-field.invariant.before;
}
