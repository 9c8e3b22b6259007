use Rattle.std.proofs.Common.{◌≡◌, ◌<◌, ◌≤◌, ℕ, length, arith, sym, ◌∙◌, subst}
use Rattle.timeline.proofs.FrameFacts.{first_reached, none_reached}
use Rattle.timeline.proofs.frames.ahead.Goals as goal

pub returns-then-moment-at-clause-value : goal.returns-then-moment-at-clause-value
returns-then-moment-at-clause-value c =
    let less : c.newest.n < length c.args.frames.now.items = omega (arith, c.args.frames.now.ok.0) in
    first_reached c.args.at c.args.frames.now.items c.newest.n c.index.result.now c.newest.invariant less c.index.ensures
    (subst (λ (m : ℕ). m ≤ c.args.at) c.moment.ensures.value c.if-moment-at.true)

pub returns-clause-value : goal.returns-clause-value
returns-clause-value c =
    let same : c.newest.n ≡ c.len-count.result = omega arith in
    sym same ∙ none_reached c.args.at c.args.frames.now.items c.newest.n c.newest.invariant (same ∙ c.len-count.ensures ∙ c.args.frames.now.ok.0)
