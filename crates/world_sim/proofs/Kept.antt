-- What a tick makes of the rows is what it makes of the objects, since each row has its object's values.
use Rattle.std.proofs.Common.{◌≡◌, ℕ, suc, ◌≤◌, List, [], ◌∷◌, ◌++◌, length, map, refl, ap, ◌∙◌, arith}
use Rattle.std.specs.Prelude.{ℤ}
use Rattle.std.proofs.lemmas.List.{length-map}
use Rattle.world_rules.specs.declared.object.Object.{Object}
use Rattle.world_sim.specs.declared.rows.Write.{Write}
use Rattle.world_sim.specs.declared.rows.Row.{Row}
use Rattle.world_sim.specs.Rows.{values_of, fresh_versions, row_versions, row_writes, versions_next, world_writes}
use Rattle.world_sim.specs.RowsNext.{fresh_row, rows_next, rows_writes, row_values, row_counts}

fresh_values : (os : List Object) → map row_values (map fresh_row os) ≡ map values_of os
fresh_values [] = refl
fresh_values (o ∷ os) = ap (λ vs. values_of o ∷ vs) (fresh_values os)

fresh_counts : (os : List Object) → map row_counts (map fresh_row os) ≡ map fresh_versions os
fresh_counts [] = refl
fresh_counts (o ∷ os) = ap (λ vs. fresh_versions o ∷ vs) (fresh_counts os)

values : (rows : List Row) (after : List Object) → length rows ≤ length after → map row_values (rows_next rows after) ≡ map values_of after
unfolding rows_next
values [] after h = fresh_values after
values (r ∷ rows) [] h = absurd (omega arith)
values (r ∷ rows) (o ∷ after) h = ap (λ vs. values_of o ∷ vs) (values rows after (omega arith))

counts : (rows : List Row) (os after : List Object) → map row_values rows ≡ map values_of os → map row_counts (rows_next rows after) ≡ versions_next os after (map row_counts rows)
unfolding rows_next versions_next
counts [] [] after e = fresh_counts after
counts [] (o ∷ os) after e = absurd (cc)
counts (r ∷ rows) [] after e = absurd (cc)
counts (r ∷ rows) (o ∷ os) [] e = refl
counts (r ∷ rows) (o ∷ os) (p ∷ after) e =
    let h : row_values r ≡ values_of o = cc in
    let t : map row_values rows ≡ map values_of os = cc in
    ap (λ (xs : List ℤ). row_versions xs (values_of p) (row_counts r) ∷ map row_counts (rows_next rows after)) h
    ∙ ap (λ (vs : List (List ℕ)). row_versions (values_of o) (values_of p) (row_counts r) ∷ vs) (counts rows os after t)

writes : (i : ℕ) (rows : List Row) (os after : List Object) → map row_values rows ≡ map values_of os → rows_writes i rows after ≡ world_writes i os after (map row_counts rows)
unfolding rows_writes world_writes
writes i [] [] after e = refl
writes i [] (o ∷ os) after e = absurd (cc)
writes i (r ∷ rows) [] after e = absurd (cc)
writes i (r ∷ rows) (o ∷ os) [] e = refl
writes i (r ∷ rows) (o ∷ os) (p ∷ after) e =
    let h : row_values r ≡ values_of o = cc in
    let t : map row_values rows ≡ map values_of os = cc in
    ap (λ (xs : List ℤ). row_writes i 0 xs (values_of p) (row_counts r) ++ rows_writes (suc i) rows after) h
    ∙ ap (λ (ws : List Write). row_writes i 0 (values_of o) (values_of p) (row_counts r) ++ ws) (writes (suc i) rows os after t)

-- ---- for the code

pub values_kept : (rows nexts : List Row) (after : List Object) → nexts ≡ rows_next rows after → length rows ≤ length after → map row_values nexts ≡ map values_of after
values_kept rows nexts after e few = ap (map row_values) e ∙ values rows after few

pub counts_kept : (rows nexts : List Row) (os after : List Object) → map row_values rows ≡ map values_of os → nexts ≡ rows_next rows after → map row_counts nexts ≡ versions_next os after (map row_counts rows)
counts_kept rows nexts os after kept e = ap (map row_counts) e ∙ counts rows os after kept

pub writes_kept : (rows : List Row) (os after : List Object) (ws : List Write) → map row_values rows ≡ map values_of os → ws ≡ rows_writes 0 rows after → ws ≡ world_writes 0 os after (map row_counts rows)
writes_kept rows os after ws kept e = e ∙ writes 0 rows os after kept

pub first_values : (os all : List Object) (rows : List Row) → all ≡ os → rows ≡ map fresh_row os → map row_values rows ≡ map values_of all
first_values os all rows e f = rw (e, f) (fresh_values os)

pub first_counts : (os : List Object) (rows : List Row) → rows ≡ map fresh_row os → map row_counts rows ≡ map fresh_versions os
first_counts os rows f = ap (map row_counts) f ∙ fresh_counts os

pub as_many : (rows : List Row) (os : List Object) → map row_values rows ≡ map values_of os → length rows ≡ length os
as_many rows os e =
    let a : length (map row_values rows) ≡ length rows = simp length-map in
    let b : length (map values_of os) ≡ length os = simp length-map in
    omega (arith, ap (λ (vs : List (List ℤ)). length vs) e, a, b)
