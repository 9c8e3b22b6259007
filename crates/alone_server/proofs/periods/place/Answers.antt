use Rattle.std.proofs.Common.{◌≡◌, None, IfOk, IfErr, rules}
use Rattle.std.proofs.lemmas.List.Sorted.{answers_always}
use Rattle.own_items.proofs.Below.match_engine.Rising.{searched, found_some, absent_none}
use Rattle.alone_server.specs.declared.periods.OwnPeriod.{OwnPeriod}
use Rattle.alone_server.specs.Periods.{period_in, IsAt}
use Rattle.alone_server.proofs.periods.place.Goals as goal
use Rattle.alone_server.proofs.periods.place.Goals.{After-ok}

module _ (c : After-ok) where
  by_halves : record { found : IfOk c.binary_search_by_key.result (IsAt c.args.periods.now c.args.n); absent : IfErr c.binary_search_by_key.result (λ _. period_in c.args.periods.now c.args.n ≡ None) }
  by_halves =
      searched (λ (p : OwnPeriod). p.n) c.args.n c.args.periods.now c.requires.rising (IsAt c.args.periods.now c.args.n)
      (λ i p there number. record { period = p; there = there; number = number }) c.binary_search_by_key.result c.binary_search_by_key.ensures.bound
      (c.binary_search_by_key.ensures.position (λ p. p.n) (answers_always _ _ _ (λ f a r g called. search rules)))

pub returns-clause-found : goal.returns-clause-found
returns-clause-found c = found_some c.binary_search_by_key.result c.ok.result (IsAt c.args.periods.now c.args.n) c.ok.ensures.value (by_halves c).found

pub returns-clause-absent : goal.returns-clause-absent
returns-clause-absent c = absent_none c.binary_search_by_key.result c.ok.result (period_in c.args.periods.now c.args.n ≡ None) c.ok.ensures.value (by_halves c).absent
