use Rattle.std.proofs.Common.{Option, ℕ, sym, subst}
use Rattle.std.specs.Prelude.{IfSome}
use Rattle.client_scope.specs.declared.period.ShownPeriod.{ShownPeriod}
use Rattle.match_engine.specs.Values.{IsAt}
use Rattle.match_engine.proofs.Rising.{found_place}
use Rattle.match_engine.proofs.values.period_of.Goals as goal

pub returns-in-Some : goal.returns-in-Some
returns-in-Some c =
    let found = subst (λ (place : Option ℕ). IfSome place (IsAt c.args.shown.now c.args.n)) c.in-Some.is c.requires.found in
    sym (found_place (λ (p : ShownPeriod). p.n) c.args.shown.now c.requires.rising c.args.n c.in-Some.at found.period found.there found.number _)
