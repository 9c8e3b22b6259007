-- The rows and the writes, object by object.
use Rattle.std.proofs.Common.{◌≡◌, ℕ, zero, suc, ◌<◌, ◌≤◌, ◌+◌, List, [], ◌∷◌, ◌++◌, length, get_or, drop, set, map, subst, add-one, refl, sym, ap, ◌∙◌, arith, append_assoc}
use Rattle.std.specs.List.{AllByRecursion}
use Rattle.std.proofs.lemmas.List.{get_or_default, drop_more, drop_all, append-nil}
use Rattle.world_rules.specs.declared.object.Object.{Object}
use Rattle.world_sim.specs.declared.rows.Write.{Write}
use Rattle.world_sim.specs.declared.rows.Row.{Row}
use Rattle.world_sim.specs.Rows.{values_of, row_writes}
use Rattle.world_sim.specs.RowsNext.{row_next, fresh_row, rows_next, rows_updated, rows_writes, IsSoundRow}

abbrev pub row_writes_from : List Write → ℕ → List Row → List Object → List Write
row_writes_from front i rows after = front ++ rows_writes i (drop i rows) (drop i after)

write_step : (i : ℕ) (r : Row) (o : Object) (ps rows : List Row) (qs after : List Object) → rows ≡ r ∷ ps → after ≡ o ∷ qs → rows_writes i rows after ≡ row_writes i 0 r.values.items (values_of o) r.versions.items ++ rows_writes (suc i) ps qs
unfolding rows_writes
write_step i r o ps rows qs after e f = rw (e, f) refl

pub row_writes_more : (front next : List Write) (i : ℕ) (rows : List Row) (after : List Object) (r : Row) (o : Object) → r ≡ get_or rows i r → o ≡ get_or after i o → i < length rows → i < length after → next ≡ front ++ row_writes i 0 r.values.items (values_of o) r.versions.items → row_writes_from front i rows after ≡ row_writes_from next (i + 1) rows after
row_writes_more front next i rows after r o at_r at_o l m k =
    let e : suc i ≡ i + 1 = omega arith in
    let w : rows_writes i (drop i rows) (drop i after) ≡ row_writes i 0 r.values.items (values_of o) r.versions.items ++ rows_writes (suc i) (drop (i + 1) rows) (drop (i + 1) after) = write_step i r o (drop (i + 1) rows) (drop i rows) (drop (i + 1) after) (drop i after) (drop_more rows i r l ∙ ap (λ (x : Row). x ∷ drop (i + 1) rows) (sym at_r)) (drop_more after i o m ∙ ap (λ (x : Object). x ∷ drop (i + 1) after) (sym at_o)) in
    rw (w, k, e, append_assoc) refl

pub row_writes_at : (front next : List Write) (i : ℕ) (rows : List Row) (after : List Object) (r : Row) (x : Object) → next ≡ front ++ row_writes i 0 r.values.items (values_of (get_or after i x)) r.versions.items → r ≡ get_or rows i r → i < length rows → i < length after → row_writes_from front i rows after ≡ row_writes_from next (i + 1) rows after
row_writes_at front next i rows after r x k at_r l m =
    row_writes_more front next i rows after r (get_or after i x) at_r (get_or_default after i x (get_or after i x) m) l m k

no_writes : (i : ℕ) (after : List Object) → rows_writes i [] after ≡ []
unfolding rows_writes
no_writes i after = refl

pub row_writes_end : (front : List Write) (i : ℕ) (rows : List Row) (after : List Object) → length rows ≤ i → row_writes_from front i rows after ≡ front
row_writes_end front i rows after h = rw (drop_all i rows h, no_writes i (drop i after), append-nil) refl

pub sound_at : (rows : List Row) (i : ℕ) (r : Row) → AllByRecursion IsSoundRow rows → i < length rows → IsSoundRow (get_or rows i r)
sound_at [] i r h lt = absurd (omega arith)
sound_at (x ∷ rows) zero r h lt = h.0
sound_at (x ∷ rows) (suc i) r h lt = sound_at rows i r h.1 (omega arith)

-- ---- rows in place

pub updated_at : (i : ℕ) (rows : List Row) (after : List Object) (r : Row) → i < length rows → get_or (rows_updated i rows after) i r ≡ get_or rows i r
updated_at i [] after r l = absurd (omega arith)
updated_at zero (x ∷ rows) after r l = refl
updated_at (suc i) (x ∷ rows) [] r l = refl
updated_at (suc i) (x ∷ rows) (o ∷ after) r l = updated_at i rows after r (omega arith)

update_at : (i : ℕ) (rows : List Row) (after : List Object) (r : Row) (o : Object) → i < length rows → i < length after → set (rows_updated i rows after) i (row_next (get_or rows i r) (get_or after i o)) ≡ rows_updated (suc i) rows after
update_at i [] after r o l m = absurd (omega arith)
update_at i (x ∷ rows) [] r o l m = absurd (omega arith)
update_at zero (x ∷ rows) (p ∷ after) r o l m = refl
update_at (suc i) (x ∷ rows) (p ∷ after) r o l m = ap (λ (xs : List Row). row_next x p ∷ xs) (update_at i rows after r o (omega arith) (omega arith))

pub length_updated : (i : ℕ) (rows : List Row) (after : List Object) → length (rows_updated i rows after) ≡ length rows
length_updated zero rows after = refl
length_updated (suc i) [] after = refl
length_updated (suc i) (x ∷ rows) [] = refl
length_updated (suc i) (x ∷ rows) (o ∷ after) = ap suc (length_updated i rows after)

pub update_more : (i : ℕ) (rows now : List Row) (after : List Object) (r next : Row) (o : Object) → now ≡ rows_updated i rows after → i < length rows → i < length after → next ≡ row_next (get_or now i r) (get_or after i o) → set now i next ≡ rows_updated (i + 1) rows after
update_more i rows now after r next o e l m f =
    let g : next ≡ row_next (get_or rows i r) (get_or after i o) = f ∙ ap (λ (x : Row). row_next x (get_or after i o)) (ap (λ (xs : List Row). get_or xs i r) e ∙ updated_at i rows after r l) in
    rw (e, g, add-one) (update_at i rows after r o l m)

pub sound_now : (i : ℕ) (rows now : List Row) (after : List Object) (r : Row) → now ≡ rows_updated i rows after → i < length rows → AllByRecursion IsSoundRow rows → IsSoundRow (get_or now i r)
sound_now i rows now after r e l h = subst IsSoundRow (sym (ap (λ (xs : List Row). get_or xs i r) e ∙ updated_at i rows after r l)) (sound_at rows i r h l)

-- the rows of the objects that were there, and those of the new ones
pub rows_whole : (rows : List Row) (after made : List Object) → length rows ≡ length after → rows_updated (length rows) rows after ++ map fresh_row made ≡ rows_next rows (after ++ made)
unfolding rows_next
rows_whole [] [] made e = refl
rows_whole [] (o ∷ after) made e = absurd (omega (arith, e))
rows_whole (r ∷ rows) [] made e = absurd (omega (arith, e))
rows_whole (r ∷ rows) (o ∷ after) made e = ap (λ (xs : List Row). row_next r o ∷ xs) (rows_whole rows after made (omega (arith, e)))

-- new objects write nothing
pub writes_whole : (i : ℕ) (rows : List Row) (after made : List Object) → length rows ≡ length after → rows_writes i rows after ≡ rows_writes i rows (after ++ made)
unfolding rows_writes
writes_whole i [] after made e = refl
writes_whole i (r ∷ rows) [] made e = absurd (omega (arith, e))
writes_whole i (r ∷ rows) (o ∷ after) made e = ap (λ (ws : List Write). row_writes i 0 r.values.items (values_of o) r.versions.items ++ ws) (writes_whole (suc i) rows after made (omega (arith, e)))
