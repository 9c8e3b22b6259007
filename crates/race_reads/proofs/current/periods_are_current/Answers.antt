use Rattle.std.proofs.Common.{ℕ, arith, below_more}
use Rattle.kept_pair.specs.Kept.{newest_first, terms_in}
use Rattle.race_reads.specs.Legal.{IsCurrentIfUp}
use Rattle.race_reads.proofs.Deciding.{holds, fails}
use Rattle.race_reads.proofs.ShownPeriods.{up_shown}
use Rattle.race_reads.proofs.current.periods_are_current.Goals as goal

pub loop-n-preserved : goal.loop-n-preserved
loop-n-preserved c =
    let P : ℕ → Type 0 = IsCurrentIfUp c.args.values.now c.args.words.now c.args.client (terms_in c.args.pair.now) c.args.pair.now.steps c.args.objects.now in
    below_more P c.loop-n.n c.loop-n.invariant (holds c.is_current_if_up.result (P c.loop-n.n) c.is_current_if_up.ensures c.if-not-is_current_if_up.false)

pub returns-then-not-is_current_if_up : goal.returns-then-not-is_current_if_up
returns-then-not-is_current_if_up c =
    let P : ℕ → Type 0 = IsCurrentIfUp c.args.values.now c.args.words.now c.args.client (terms_in c.args.pair.now) c.args.pair.now.steps c.args.objects.now in
    λ all. fails c.is_current_if_up.result (P c.loop-n.n) c.is_current_if_up.ensures c.if-not-is_current_if_up.true (all c.loop-n.n)

pub returns : goal.returns
returns c = λ n up. let lt = up_shown (newest_first c.args.pair.now.steps) n up in c.loop-n.invariant n (omega (arith, lt)) up
