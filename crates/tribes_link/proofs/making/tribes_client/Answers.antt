use Rattle.std.proofs.Common.{◌≡◌, sym, subst, rules}
use Rattle.std.specs.Prelude.{ℤ}
use Rattle.std.proofs.lemmas.Int.{to_z-of_z}
use mir.Syntax.{w32}
use mir.Val.{to_z, of_z, SFits}
use Rattle.tribes_ends.specs.Making.{client_refusal}
use Rattle.tribes_link.specs.Answers.{IsMade}
use Rattle.tribes_link.proofs.MadeEnds.{made-answers}
use Rattle.tribes_link.proofs.making.tribes_client.Goals as goal

pub returns-clause-answer : goal.returns-clause-answer
returns-clause-answer c = λ closed.
    let fits : SFits w32 c.begin.result = search rules in
    let same : to_z w32 (of_z w32 c.begin.result) ≡ c.begin.result = to_z-of_z w32 c.begin.result fits in
    subst (λ (code : ℤ). IsMade (client_refusal c.args.config.now c.args.kinds.now c.args.fields.now) code c.begin.new.reason) (sym same)
    (made-answers (client_refusal c.args.config.now c.args.kinds.now c.args.fields.now) c.client-made.result c.begin.result c.begin.new.reason c.client-made.ensures.refused c.begin.ensures.answer c.begin.ensures.refused)
