use Rattle.std.proofs.Common.{◌≡◌, ℕ, ◌+◌, ◌<◌, List, [], ◌∷◌, ◌++◌, length, map, drop, get_or, sym, ap, ◌∙◌, arith}
use Rattle.std.specs.Prelude.{ℤ}
use Rattle.std.proofs.lemmas.List.{append_assoc, drop_more}
use Rattle.race_history.specs.History.{Values}
use Rattle.race_history.specs.Growing.{with_row}
use Rattle.race_history.proofs.Histories.{rows_of, length_rows, row_is}
use Rattle.race_history.proofs.history.add_new.Goals as goal

new_next : (objects new all : Values) (told : List (List ℤ)) (rows : List (List ℤ)) (k : ℕ) (row : List ℤ) → new ≡ objects ++ told ∷ [] → told ≡ with_row [] row → row ≡ get_or rows k row
    → k < length rows → objects ++ map (with_row []) (drop k rows) ≡ all → new ++ map (with_row []) (drop (k + 1) rows) ≡ all
new_next objects new all told rows k row is from at l so_far =
    let rest = map (with_row []) (drop (k + 1) rows) in
    ap (λ (ts : Values). ts ++ rest) is ∙ append_assoc objects (told ∷ []) rest
    ∙ ap (λ (t : List (List ℤ)). objects ++ t ∷ rest) (from ∙ ap (with_row []) at)
    ∙ ap (λ (rs : List (List ℤ)). objects ++ map (with_row []) rs) (sym (drop_more rows k row l)) ∙ so_far

pub loop-object-preserved : goal.loop-object-preserved
loop-object-preserved c =
    let w = c.args.world.now in
    let l : c.loop-object.object < length (rows_of w) = let e = length_rows w in omega arith in
    record {
      value = new_next c.loop-object.objects.items c.push.new.self.items _ c.in_ok-told.told (rows_of w) c.loop-object.object c.values.result.now c.in_ok-push.ensures.items c.in_ok-told.ensures
          (row_is w c.loop-object.object c.values.result.now c.values.ensures.value) l c.loop-object.invariant.value;
      few = omega (arith, c.loop-object.invariant.next);
      next = λ m. omega arith;
    }
