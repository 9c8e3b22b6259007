use Rattle.std.proofs.Common.{◌∙◌, Some, sym, ap}
use Rattle.alone_server.specs.declared.periods.OwnPeriod.{OwnPeriod}
use Rattle.own_items.proofs.Below.match_engine.Rising.{found_place}
use Rattle.alone_server.proofs.periods.period_in.Goals as goal

pub returns-in-Some : goal.returns-in-Some
returns-in-Some c =
    let at = c.in-Some.ensures.found in
    ap Some c.index-periods-at.is
    ∙ sym (found_place (λ (p : OwnPeriod). p.n) c.args.periods.now c.requires.rising c.args.n c.in-Some.at at.period at.there at.number c.index-periods-at.result)
