use Rattle.std.proofs.Common.{◌≡◌, ◌∙◌, ◌∷◌, [], ℤ, pos, Some, rules, get_or, sym, ap, subst, refl}
use Rattle.std.specs.Prelude.{IsSome, option_and_then, slice_get}
use Rattle.std.proofs.lemmas.Int.{to_z-of_z}
use Rattle.std.proofs.lemmas.List.Elements.{All-from_recursion}
use mir.Syntax.{w64}
use mir.Val.{to_z, of_z, SFits}
use Rattle.ghost_masks.specs.Plan.{fields_of}
use Rattle.world_rules.specs.Kinds.{match_kinds}
use Rattle.alone_server.specs.Periods.{period_in}
use Rattle.alone_server.specs.Values.{range_in, IsOwnRead}
use Rattle.alone_server.proofs.Packing.{has_value}
use Rattle.alone_server.proofs.values.AloneValuesValues.value.Goals as goal

pub returns-clause-asks : goal.returns-clause-asks
returns-clause-asks c =
    let ps = c.args.self.now.periods.now in
    let p = c.in-Some.period.now in
    let field = c.args.field in
    let found : period_in ps c.args.n ≡ Some p = sym c.in-Some.ensures in
    let z = get_or c.as_slice-values.result.now field (pos 0) in
    let fits : SFits w64 z = search rules in
    let same : to_z w64 (of_z w64 z) ≡ z = to_z-of_z w64 z fits in
    let some : IsSome (range_in field p) = subst (IsSome {T = ℤ × ℤ}) (ap (option_and_then (range_in field)) found) c.requires in
    let there = has_value (slice_get (fields_of match_kinds p.kind) field) p.values.items field some in
    let read : get_or p.values.items field (pos 0) ≡ z = ap (λ vs. get_or vs field (pos 0)) (sym c.as_slice-values.ensures.value) in
    let own : IsOwnRead ps _ = record { period = p; found = found; newest = there ∙ ap Some (read ∙ sym same); plain = refl } in
    (refl, All-from_recursion (IsOwnRead ps) (_ ∷ []) (own, tt))
