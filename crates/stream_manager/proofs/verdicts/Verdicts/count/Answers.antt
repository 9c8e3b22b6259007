use Rattle.std.proofs.Common.{◌≡◌, ℕ, List, length, subst}
use Rattle.tn_types.specs.declared.choices.Verdict.{Verdict}
use Rattle.stream_manager.proofs.Noticed.{length-noticed}
use Rattle.stream_manager.proofs.verdicts.Verdicts.count.Goals as goal

pub returns-clause-value : goal.returns-clause-value
returns-clause-value c =
    subst (λ (l : List (ℕ × Verdict)). c.self.inside.notices.count ≡ length l) c.self.view_is (length-noticed c.self.inside.notices)
