use Rattle.std.proofs.Common.{◌≡◌, ◌≤◌, ◌∙◌, false, length, subst, inl, inr, arith, ltb}
use Rattle.std.proofs.lemmas.Bool.{cases_lt}
use Rattle.std.proofs.lemmas.Bool.Decides.{nat_tests}
use Rattle.ghost_model.proofs.Granted.{not_below}
use Rattle.ghost_scope.specs.Table.{Table}
use Rattle.ghost_scope.specs.Shown.{NoneWaits}
use Rattle.ghost_scope.proofs.Waiting.{none_waits, one_waits}
use Rattle.ghost_scope.proofs.periods.Periods.has_waiting.Goals as goal

pub returns : goal.returns
returns c =
    let long : c.len.result ≡ length c.self.inside.entries.items = c.len.ensures ∙ c.self.inside.entries.ok.0 in
    subst (λ (t : Table). ((ltb c.self.inside.first_waiting c.len.result ≡ false) → NoneWaits t) × (NoneWaits t → (ltb c.self.inside.first_waiting c.len.result ≡ false))) c.self.view_is (
      λ e. none_waits c.self.inside.entries.items c.self.inside.holders.items c.self.inside.first_waiting c.self.inside.shown c.self.inside.work c.self.invariant.0 (let le : length c.self.inside.entries.items ≤ c.self.inside.first_waiting = grind (arith, nat_tests, long, e) in le),
      λ none. elim (cases_lt c.self.inside.first_waiting c.len.result) [
        | inl lt ↦ absurd (one_waits c.self.inside.entries.items c.self.inside.holders.items c.self.inside.first_waiting c.self.inside.shown c.self.inside.work c.self.invariant.0 none (omega (arith, lt, long)))
        | inr le ↦ not_below c.self.inside.first_waiting c.len.result le
      ],
    )
