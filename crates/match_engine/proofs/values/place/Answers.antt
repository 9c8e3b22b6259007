use Rattle.std.proofs.Common.{◌≡◌, ℕ, None, IfOk, IfErr, rules}
use Rattle.std.proofs.lemmas.List.Sorted.{answers_always}
use Rattle.client_scope.specs.declared.period.ShownPeriod.{ShownPeriod}
use Rattle.match_engine.specs.Values.{period_of, IsAt}
use Rattle.match_engine.proofs.Rising.{searched, found_some, absent_none}
use Rattle.match_engine.proofs.values.place.Goals as goal
use Rattle.match_engine.proofs.values.place.Goals.{After-ok}

module _ (c : After-ok) where
  by_halves : record { found : IfOk c.binary_search_by_key.result (IsAt c.args.shown.now c.args.n); absent : IfErr c.binary_search_by_key.result (λ _. period_of c.args.shown.now c.args.n ≡ None) }
  by_halves =
      searched (λ (p : ShownPeriod). p.n) c.args.n c.args.shown.now c.requires.rising (IsAt c.args.shown.now c.args.n)
      (λ i p there number. record { period = p; there = there; number = number }) c.binary_search_by_key.result c.binary_search_by_key.ensures.bound
      (c.binary_search_by_key.ensures.position (λ p. p.n) (answers_always _ _ _ (λ f a r g called. search rules)))

pub returns-clause-found : goal.returns-clause-found
returns-clause-found c = found_some c.binary_search_by_key.result c.ok.result (IsAt c.args.shown.now c.args.n) c.ok.ensures.value (by_halves c).found

pub returns-clause-absent : goal.returns-clause-absent
returns-clause-absent c = absent_none c.binary_search_by_key.result c.ok.result (period_of c.args.shown.now c.args.n ≡ None) c.ok.ensures.value (by_halves c).absent
