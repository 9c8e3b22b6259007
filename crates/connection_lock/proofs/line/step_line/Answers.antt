use Rattle.std.proofs.Common.{◌≡◌, ◌∙◌, ◌∷◌, ◌++◌, [], sym, ap, subst}
use Rattle.kept_pair.specs.pair_core.History.{PairStep}
use Rattle.kept_pair.specs.pair_core.Answers.{accepted_in}
use Rattle.kept_pair.specs.pair_core.Calls.{step_of}
use Rattle.kept_pair.specs.pair_core.declared.step.PairStep.{PairStep as GivenStep}
use Rattle.kept_pair.specs.Kept.{MayStep, IsReady, terms_in, newest_first, answer_after}
use Rattle.kept_pair.proofs.Replaying.{newest-more}
use Rattle.connection_lock.specs.Turns.{line_step}
use Rattle.connection_lock.proofs.Lines.{line-grows, line-is, line-met, line-ready}
use Rattle.connection_lock.proofs.line.step_line.Goals as goal

pub step-answer-requires-clause-may : goal.step-answer-requires-clause-may
step-answer-requires-clause-may c =
    subst (λ (s : GivenStep). MayStep c.args.pair.now (step_of s)) (sym c.step_of.ensures) (line-met (terms_in c.args.pair.now) (newest_first c.args.pair.now.steps) c.args.room c.args.line)

pub step-answer-requires-clause-ready : goal.step-answer-requires-clause-ready
step-answer-requires-clause-ready c =
    subst (λ (s : GivenStep). IsReady c.args.pair.now.pair s) (sym c.step_of.ensures) (line-ready c.args.pair.now c.requires.quiet c.args.room c.args.line)

pub returns-clause-step : goal.returns-clause-step
returns-clause-step c =
    let e = c.step-answer.ensures in
    let d = c.drop_events.ensures in
    let step : step_of c.step_of.result ≡ line_step c.args.room c.args.line = ap step_of c.step_of.ensures ∙ line-is c.args.room c.args.line in
    let kept = d.steps ∙ e.kept ∙ ap (λ (s : PairStep). c.args.pair.now.steps ++ s ∷ []) step in
    let grows = line-grows (terms_in c.args.pair.now) (newest_first c.args.pair.now.steps) c.args.room c.args.line in
    let terms = d.terms ∙ e.terms in
    record {
      kept = kept;
      answer = e.answer ∙ ap (answer_after c.args.pair.now) step;
      moves = grows.more;
      accepted =
          (λ j. accepted_in (terms j) (newest_first (kept j)))
          ∙ ap (accepted_in (terms_in c.args.pair.now)) (newest-more c.args.pair.now.steps (line_step c.args.room c.args.line)) ∙ grows.is;
      few = grows.few;
    }
