use Rattle.std.proofs.Common.{◌≡◌, ◌∙◌, ◌+◌, ◌++◌, ◌∷◌, [], ℤ, List, length, map, ap, arith, length-append, SFits, w64, rules}
use Rattle.std.proofs.lemmas.Int.{to_z-of_z}
use Rattle.std.proofs.lemmas.List.FromFn.{map-range_with_len_more}
use Rattle.relay_model.specs.Items.{shown_at}
use Rattle.relay_spectator.proofs.watch.values_of.Goals as goal

pub loop-field-preserved : goal.loop-field-preserved
loop-field-preserved c =
    let shown = shown_at c.args.copies.now.kinds c.args.copy.now in
    let at = c.loop-field.field in
    let fits : SFits w64 c.value_of.result = search rules in
    let more : c.push.new.self ≡ c.loop-field.values ++ c.value_of.result ∷ [] =
    c.push.ensures ∙ ap (λ v. c.loop-field.values ++ v ∷ []) (to_z-of_z w64 c.value_of.result fits) in
    let long = ap (λ (l : List ℤ). length l) more ∙ length-append c.loop-field.values (c.value_of.result ∷ []) in
    record {
      values = more ∙ ap (λ (l : List ℤ). l ++ c.value_of.result ∷ []) c.loop-field.invariant.values
          ∙ ap (λ v. map shown (Rattle.std.specs.List.range_with_len 0 at) ++ v ∷ []) (c.value_of.ensures c.args.copy.now c.requires)
          ∙ Rattle.std.proofs.Common.sym (map-range_with_len_more shown 0 at at (omega arith));
      long = omega (arith, long, c.loop-field.invariant.long);
    }
