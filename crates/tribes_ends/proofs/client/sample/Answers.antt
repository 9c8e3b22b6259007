use Rattle.std.proofs.Common.{◌∙◌, sym}
use Rattle.tribes_ends.proofs.client.sample.Goals as goal

pub returns-in-Ok-clause-told : goal.returns-in-Ok-clause-told
returns-in-Ok-clause-told c = record {
  stands = c.in-Ok.ensures.stands;
  answer = λ log s. sym c.in-Ok.is ∙ c.sample_bits.ensures.answer log s;
}
