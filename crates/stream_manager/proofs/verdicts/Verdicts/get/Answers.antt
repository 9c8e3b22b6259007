use Rattle.std.proofs.Common.{◌≡◌, ℕ, ◌+◌, List, Some, None, subst}
use Rattle.std.specs.Prelude.{slice_get}
use Rattle.tn_types.specs.declared.choices.Verdict.{Verdict}
use Rattle.stream_manager.proofs.Noticed.{pair, noticed-past, noticed-there}
use Rattle.stream_manager.proofs.verdicts.Verdicts.get.Goals as goal

pub returns-then-place-self : goal.returns-then-place-self
returns-then-place-self c =
    subst (λ (l : List (ℕ × Verdict)). None ≡ slice_get l c.args.place) c.self.view_is (noticed-past c.self.inside.notices c.args.place c.if-place-self.true)

pub returns : goal.returns
returns c =
    subst (λ (l : List (ℕ × Verdict)). Some (pair (c.self.inside.notices.first + c.args.place) c.verdict_at.result) ≡ slice_get l c.args.place) c.self.view_is
    (noticed-there c.self.inside.notices c.args.place c.verdict_at.result c.if-place-self.false c.verdict_at.ensures.verdict)
