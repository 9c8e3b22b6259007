use Rattle.std.proofs.Common.{◌≡◌, ℕ, ◌<◌, List, [], ◌∷◌, replicate, refl, rules, subst, sym}
use Rattle.std.proofs.lemmas.List.{ext_get_or}
use Rattle.ghost_rows.specs.declared.slot_rows.Standing.{Standing}
use Rattle.ghost_rows.specs.Kept.{IsFresh}
use Rattle.ghost_rows.proofs.RowLists.{rows_length, row_alike}
use Rattle.ghost_rows.proofs.RowSteps.{fresh_row, zeros}
use Rattle.ghost_rows.proofs.slot_rows.Rows.new.Goals as goal

pub returns-in-Ok-vec-2-clause-slots : goal.returns-in-Ok-vec-2-clause-slots
returns-in-Ok-vec-2-clause-slots c = rows_length 256 c.in-Ok.standings.items c.in-Ok-vec.lasts.items c.in-Ok-vec-2.carriers.items (search rules) (search rules) (search rules)

pub returns-in-Ok-vec-2-clause-fresh : goal.returns-in-Ok-vec-2-clause-fresh
returns-in-Ok-vec-2-clause-fresh c slot lt =
    let s : Standing = record { due = 65535; turn = 0 } in
    let none : List ℕ = 0 ∷ 0 ∷ 0 ∷ 0 ∷ 0 ∷ 0 ∷ 0 ∷ 0 ∷ 0 ∷ 0 ∷ 0 ∷ 0 ∷ 0 ∷ 0 ∷ 0 ∷ 0 ∷ [] in
    let carriers : c.in-Ok-vec-2.carriers.items ≡ replicate 256 none = c.in-Ok-vec-2.ensures.items_if_clones_equal (λ y h. ext_get_or 0 y none h.long (λ i below. h.at i 0 0 (subst (λ (k : ℕ). i < k) h.long below))) in
    subst (IsFresh 0) (sym (row_alike s 0 none c.in-Ok.standings.items c.in-Ok-vec.lasts.items c.in-Ok-vec-2.carriers.items (search rules) (search rules) carriers slot lt)) (fresh_row s 0 none refl refl zeros)
