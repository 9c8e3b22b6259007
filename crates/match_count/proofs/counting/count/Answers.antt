use Rattle.std.proofs.Common.{◌∙◌, ◌≤◌, ℕ, length, reverse, take, Ok, sym, ap, subst}
use Rattle.match_script.specs.declared.types.Script.{Script}
use Rattle.match_engine.specs.Match.{StandsFor}
use Rattle.match_count.specs.Bounds.{AreCounts}
use Rattle.match_count.proofs.Counted.{none_counted, counted_all}
use Rattle.match_count.proofs.counting.count.Goals as goal

pub lines-init : goal.lines-init
lines-init c =
    let game = c.in_ok-game.game in
    let place = sym c.in_ok-game.ensures.place in
    record {
      played = subst (λ (k : ℕ). StandsFor game (reverse (take k game.script.body))) place c.in_ok-game.ensures.stands;
      script = c.in_ok-game.ensures.script;
      counted = subst (λ (k : ℕ). AreCounts c.args.script.now k c.none-counts.result) place (none_counted c.args.script.now c.none-counts.result c.none-counts.ensures);
    }

pub returns-clause-counts : goal.returns-clause-counts
returns-clause-counts c =
    let ended = c.count_next.ensures.end (c.in_ok-count_next.was ∙ ap Ok c.if-branch.false) in
    ended.2
    ∙ counted_all c.args.script.now c.lines.game.place c.lines.counts
    (subst (λ (s : Script). length s.body ≤ c.lines.game.place) c.lines.invariant.script ended.0) c.lines.invariant.counted
