use Rattle.std.proofs.Common.{◌≡◌, ◌∙◌, ◌∷◌, [], ℤ, pos, Some, rules, get_or, sym, ap, subst, refl}
use Rattle.std.specs.Prelude.{IfSome, ◌≤ℤ◌}
use Rattle.std.proofs.lemmas.Int.{to_z-of_z}
use Rattle.std.proofs.lemmas.List.Elements.{All-from_recursion}
use mir.Syntax.{w64}
use mir.Val.{to_z, of_z, SFits}
use Rattle.match_engine.specs.Values.{ranges, IsNewest}
use Rattle.match_engine.proofs.Newest.{not_shown, there, inside, within, newest}
use Rattle.match_engine.proofs.values.WorldValuesValues.value.Goals as goal

pub unreachable-requires : goal.unreachable-requires
unreachable-requires c = let me = c.args.self.now in not_shown me.world.now me.shown.now c.args.n c.args.field (sym c.in_default.ensures) c.requires

pub values-values-requires : goal.values-values-requires
values-values-requires c =
    let me = c.args.self.now in
    there me.world.now me.shown.now c.args.n c.args.field c.in-Some.period.now (sym c.in-Some.ensures) c.requires

pub bounds-values-field : goal.bounds-values-field
bounds-values-field c =
    let me = c.args.self.now in
    inside me.world.now me.shown.now c.args.n c.args.field c.in-Some.period.now (sym c.in-Some.ensures) c.requires _ c.values-values.ensures.value c.values-values.ensures.fits

pub returns-clause-range : goal.returns-clause-range
returns-clause-range c =
    let me = c.args.self.now in
    let z = get_or c.values-values.result.now c.args.field (pos 0) in
    let fits : SFits w64 z = search rules in
    let same : to_z w64 (of_z w64 z) ≡ z = to_z-of_z w64 z fits in
    subst (λ (v : ℤ). IfSome (ranges me.world.now me.shown.now c.args.n c.args.field) (λ r. (r.0 ≤ℤ v) × (v ≤ℤ r.1))) (sym same)
    (within me.world.now me.shown.now c.args.n c.args.field c.in-Some.period.now (sym c.in-Some.ensures) c.requires _ c.values-values.ensures.value c.values-values.ensures.fits (pos 0))

pub returns-clause-asks : goal.returns-clause-asks
returns-clause-asks c =
    let me = c.args.self.now in
    let z = get_or c.values-values.result.now c.args.field (pos 0) in
    let fits : SFits w64 z = search rules in
    let same : to_z w64 (of_z w64 z) ≡ z = to_z-of_z w64 z fits in
    let read : IsNewest me.world.now me.shown.now _ = record {
      period = c.in-Some.period.now;
      found = sym c.in-Some.ensures;
      newest = newest me.world.now me.shown.now c.args.n c.args.field c.in-Some.period.now (sym c.in-Some.ensures) c.requires _
          c.values-values.ensures.value c.values-values.ensures.fits (pos 0) ∙ ap Some (sym same);
      plain = refl;
    } in
    (refl, refl, All-from_recursion (IsNewest me.world.now me.shown.now) (_ ∷ []) (read, tt))
