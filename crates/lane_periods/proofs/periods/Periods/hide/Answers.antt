use Rattle.std.proofs.Common.{not, ◌==◌, List, ℕ, sym, subst}
use Rattle.lane_periods.specs.Periods.{ArePeriods}
use Rattle.lane_periods.proofs.Numbers.{hidden-periods}
use Rattle.lane_periods.proofs.periods.Periods.hide.Goals as goal

pub invariant_of-self : goal.invariant_of-self
invariant_of-self c =
    subst (λ (up : List ℕ). ArePeriods c.self.inside.objects.items c.self.inside.kinds.items up) (sym c.without.ensures)
    (hidden-periods c.self.inside.objects.items c.self.inside.kinds.items c.self.inside.up.items (λ m. not (m == c.args.n)) c.self.invariant)
