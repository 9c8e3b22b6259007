use Rattle.std.proofs.Common.{◌≡◌, ◌∙◌, ◌++◌, ◌∷◌, [], false, ℕ, List, length, sym, ap, subst, arith}
use Rattle.lane_periods.specs.Periods.{PeriodList, has_object, ArePeriods}
use Rattle.lane_periods.proofs.Numbers.{shown-periods}
use Rattle.lane_periods.proofs.periods.Periods.show.Goals as goal

pub invariant_of-self : goal.invariant_of-self
invariant_of-self c =
    let objects : List ℕ = c.self.inside.objects.items in
    let free : has_object c.self.inside.objects.items c.self.inside.up.items c.args.object ≡ false =
    ap (λ (p : PeriodList). has_object p.objects p.up c.args.object) c.self.view_is ∙ c.requires.free in
    let number : c.len-n.result ≡ length c.self.inside.objects.items =
    let l = c.len-n.ensures in let ok = c.self.inside.objects.ok in omega arith in
    let up : c.push_reserved-3.new.self.items ≡ c.self.inside.up.items ++ length c.self.inside.objects.items ∷ [] =
    c.push_reserved-3.ensures.items ∙ ap (λ (n : ℕ). c.self.inside.up.items ++ n ∷ []) number in
    subst (λ (x : List ℕ × List ℕ × List ℕ). ArePeriods x.0 x.1 x.2) (λ j. (sym c.push_reserved.ensures.items j, sym c.push_reserved-2.ensures.items j, sym up j))
    (shown-periods c.self.inside.objects.items c.self.inside.kinds.items c.self.inside.up.items c.args.object c.args.kind c.self.invariant free)
