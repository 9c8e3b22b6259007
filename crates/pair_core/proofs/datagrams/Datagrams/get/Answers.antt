use Rattle.std.proofs.Common.{◌≡◌, ◌∙◌, ◌-◌, ◌≤◌, ℕ, List, Some, length, take, drop, sym, ap, subst, refl}
use Rattle.std.specs.Prelude.{slice_get}
use Rattle.pair_core.specs.Flat.{cut, AreFlat}
use Rattle.pair_core.proofs.Flat.{cut-none, short-at}
use Rattle.pair_core.proofs.datagrams.Datagrams.get.Goals as goal

pub returns-in-None-clause-value : goal.returns-in-None-clause-value
returns-in-None-clause-value c =
    let beyond : length c.self.inside.ends.items ≤ c.args.place = subst (λ (l : List ℕ). length l ≤ c.args.place) c.as_slice.ensures.value (c.in-None.ensures.none refl) in
    sym (cut-none 0 c.self.inside.ends.items c.self.inside.bytes.items c.args.place beyond) ∙ ap (λ d. slice_get d.list c.args.place) c.self.view_is

pub returns-in-Some-clause-fits : goal.returns-in-Some-clause-fits
returns-in-Some-clause-fits c =
    short-at c.self.inside.ends.items c.deref.result.now c.args.place (take (c.in-Some.end - c.in-Some.start) (drop c.in-Some.start c.deref.result.now))
    (subst (λ (l : List ℕ). AreFlat c.self.inside.ends.items l) (sym c.deref.ensures.value) c.self.invariant)
    (subst (λ (l : List ℕ). slice_get (cut 0 l c.deref.result.now) c.args.place ≡ Some (take (c.in-Some.end - c.in-Some.start) (drop c.in-Some.start c.deref.result.now))) c.as_slice.ensures.value (c.in-Some.ensures.some c.deref.result.now))
