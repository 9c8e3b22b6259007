use Rattle.std.proofs.Common.{◌∙◌, ◌++◌, ◌≤◌, List, length, map, drop, set, ap, arith, append-nil}
use Rattle.std.proofs.lemmas.List.{take_all, drop_all}
use Rattle.alone_server.specs.declared.periods.OwnPeriod.{OwnPeriod}
use Rattle.alone_server.specs.Periods.{unwritten}
use Rattle.own_items.proofs.Below.match_engine.Taking.{next_is, mapped_more}
use Rattle.alone_server.proofs.periods.clear_all.Goals as goal

pub loop-i-preserved : goal.loop-i-preserved
loop-i-preserved c =
    let ps = c.args.periods.now in
    let i = c.loop-i.i in
    let d = c.index-periods-i.result in
    ap (λ (p : OwnPeriod). set c.loop-i.periods i (unwritten p)) (next_is unwritten ps c.loop-i.periods i d c.loop-i-test.true c.loop-i.invariant)
    ∙ mapped_more unwritten ps c.loop-i.periods i d c.loop-i-test.true c.loop-i.invariant

pub returns : goal.returns
returns c =
    let ps = c.args.periods.now in
    let done : length ps ≤ c.loop-i.i = omega (arith, c.loop-i-test.false) in
    c.loop-i.invariant ∙ ap (λ (qs : List OwnPeriod). map unwritten qs ++ drop c.loop-i.i ps) (take_all c.loop-i.i ps done)
    ∙ ap (λ (qs : List OwnPeriod). map unwritten ps ++ qs) (drop_all c.loop-i.i ps done) ∙ append-nil (map unwritten ps)
