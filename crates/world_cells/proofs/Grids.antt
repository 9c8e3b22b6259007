-- One object's change, in the cells and in the bits of their columns and rows.
use Rattle.std.proofs.Common.{◌≡◌, ℕ, zero, suc, ◌+◌, ◌<◌, ◌≤◌, cond, List, [], ◌∷◌, ◌++◌, length, refl, sym, ap, ◌∙◌, arith, None, Option, get_or, inl, inr, take, drop, append_assoc}
use Rattle.std.proofs.lemmas.List.{take_more, drop_more, length-take}
use Rattle.std.proofs.lemmas.Bool.Decides.{nat_tests, eqb_tells}
use Rattle.world_rules.specs.declared.object.Object.{Object}
use Rattle.world_cells.specs.Lines.{GridParts, has, is_before, IsAt, IsPut}
use Rattle.world_cells.specs.Cells.{spot, spot_at, column_in, row_in, AreLines, IsGrid, left, come}
use Rattle.world_cells.proofs.Changes.{AreCells, AreCells-same, AreCells-moved, AreCells-made, dead, dead_place}

as_cells : (grid : GridParts) (os : List Object) → IsGrid grid os → AreCells grid.cells os
as_cells grid os g = record { all = g.all; exact = g.exact }

-- ---- where each number lies

spot_same : (xs ys : List Object) (x y : Object) (n : ℕ) → spot x ≡ spot y → spot_at (xs ++ x ∷ ys) n ≡ spot_at (xs ++ y ∷ ys) n
spot_same [] ys x y zero e = e
spot_same [] ys x y (suc n) e = refl
spot_same (z ∷ xs) ys x y zero e = refl
spot_same (z ∷ xs) ys x y (suc n) e = spot_same xs ys x y n e

spot_here : (xs ys : List Object) (x : Object) (n : ℕ) → length xs ≡ n → spot_at (xs ++ x ∷ ys) n ≡ spot x
spot_here [] ys x zero e = refl
spot_here [] ys x (suc n) e = absurd (omega (arith, e))
spot_here (z ∷ xs) ys x zero e = absurd (omega (arith, e))
spot_here (z ∷ xs) ys x (suc n) e = spot_here xs ys x n (omega (arith, e))

spot_other : (xs ys : List Object) (x y : Object) (n : ℕ) → (n ≡ length xs → ⊥) → spot_at (xs ++ x ∷ ys) n ≡ spot_at (xs ++ y ∷ ys) n
spot_other [] ys x y zero e = absurd (e refl)
spot_other [] ys x y (suc n) e = refl
spot_other (z ∷ xs) ys x y zero e = refl
spot_other (z ∷ xs) ys x y (suc n) e = spot_other xs ys x y n (λ h. e (ap suc h))

spot_behind : (xs : List Object) (d : Object) (n : ℕ) → spot d ≡ None → spot_at (xs ++ d ∷ []) n ≡ spot_at xs n
spot_behind [] d zero e = e
spot_behind [] d (suc n) e = refl
spot_behind (z ∷ xs) d zero e = refl
spot_behind (z ∷ xs) d (suc n) e = spot_behind xs d n e

-- ---- the bits of columns or rows

lines_moved : (line_in : Option ℕ → ℕ) (n : ℕ) (to : Option ℕ) (words next : List ℕ) (xs ys : List Object) (x y : Object) → length xs ≡ n → spot y ≡ to → IsPut n (line_in to) words next → AreLines line_in words (xs ++ x ∷ ys) → AreLines line_in next (xs ++ y ∷ ys)
lines_moved line_in n to words next xs ys x y m f put a = λ line k l lt.
    put line k l lt ∙ elim (eqb_tells k n) [
      | inl w ↦
          let here : spot_at (xs ++ y ∷ ys) k ≡ to = spot_here xs ys y k (m ∙ sym w.1) ∙ f in
          ap (λ b. cond b (is_before line (line_in to)) (has words line k)) w.0 ∙ ap (λ s. is_before line (line_in s)) (sym here)
      | inr w ↦
          ap (λ b. cond b (is_before line (line_in to)) (has words line k)) w.0 ∙ a line k l lt
          ∙ ap (λ s. is_before line (line_in s)) (spot_other xs ys x y k (λ h. w.1 (h ∙ m)))
    ]

lies_there : (line_in : Option ℕ → ℕ) (n : ℕ) (from : Option ℕ) (words : List ℕ) (xs ys : List Object) (x : Object) → n < 1024 → length xs ≡ n → spot x ≡ from → AreLines line_in words (xs ++ x ∷ ys) → IsAt n (line_in from) words
lies_there line_in n from words xs ys x few m e a = λ line l. a line n l few ∙ ap (λ s. is_before line (line_in s)) (spot_here xs ys x n m ∙ e)

lines_same : (line_in : Option ℕ → ℕ) (words : List ℕ) (os ps : List Object) → ((n : ℕ) → spot_at os n ≡ spot_at ps n) → AreLines line_in words os → AreLines line_in words ps
lines_same line_in words os ps e a = λ line k l lt. a line k l lt ∙ ap (λ s. is_before line (line_in s)) (e k)

before_none : (line : ℕ) → line ≤ 16 → is_before line 16 ≡ 0
before_none line l = grind (arith, nat_tests)

lines_none : (line_in : Option ℕ → ℕ) (words : List ℕ) → line_in None ≡ 16 → ((line n : ℕ) → has words line n ≡ 0) → AreLines line_in words []
lines_none line_in words e h = λ line k l lt. h line k ∙ sym (ap (is_before line) e ∙ before_none line l)

-- ---- all of them

-- it stays where it is
pub IsGrid-same : (grid : GridParts) (xs ys : List Object) (x y : Object) → spot x ≡ spot y → IsGrid grid (xs ++ x ∷ ys) → IsGrid grid (xs ++ y ∷ ys)
IsGrid-same grid xs ys x y e g =
    let cells = AreCells-same grid.cells xs ys x y e (as_cells grid _ g) in
    record {
      all = cells.all;
      exact = cells.exact;
      columns = lines_same column_in grid.columns _ _ (λ n. spot_same xs ys x y n e) g.columns;
      rows = lines_same row_in grid.rows _ _ (λ n. spot_same xs ys x y n e) g.rows;
    }

-- it goes from where it lay to where it lies now
pub IsGrid-moved : (n : ℕ) (from to : Option ℕ) (grid next : GridParts) (xs ys : List Object) (x y : Object) → n < 1024 → length xs ≡ n → spot x ≡ from → spot y ≡ to → next.cells ≡ come n to (left n from grid.cells) → (IsAt n (column_in from) grid.columns → IsPut n (column_in to) grid.columns next.columns) → (IsAt n (row_in from) grid.rows → IsPut n (row_in to) grid.rows next.rows) → IsGrid grid (xs ++ x ∷ ys) → IsGrid next (xs ++ y ∷ ys)
IsGrid-moved n from to grid next xs ys x y few m e f lists column row g =
    let cells : AreCells next.cells (xs ++ y ∷ ys) = rw lists (AreCells-moved n from to grid.cells xs ys x y m e f (as_cells grid _ g)) in
    record {
      all = cells.all;
      exact = cells.exact;
      columns = lines_moved column_in n to grid.columns next.columns xs ys x y m f (column (lies_there column_in n from grid.columns xs ys x few m e g.columns)) g.columns;
      rows = lines_moved row_in n to grid.rows next.rows xs ys x y m f (row (lies_there row_in n from grid.rows xs ys x few m e g.rows)) g.rows;
    }

-- one more object
pub IsGrid-made : (n : ℕ) (from to : Option ℕ) (grid next : GridParts) (xs : List Object) (y : Object) → n < 1024 → length xs ≡ n → from ≡ None → spot y ≡ to → next.cells ≡ come n to (left n from grid.cells) → (IsAt n (column_in from) grid.columns → IsPut n (column_in to) grid.columns next.columns) → (IsAt n (row_in from) grid.rows → IsPut n (row_in to) grid.rows next.rows) → IsGrid grid xs → IsGrid next (xs ++ y ∷ [])
IsGrid-made n from to grid next xs y few m e f lists column row g =
    let cells : AreCells next.cells (xs ++ y ∷ []) = rw lists (AreCells-made n from to grid.cells xs y m e f (as_cells grid _ g)) in
    let columns : AreLines column_in grid.columns (xs ++ dead ∷ []) = lines_same column_in grid.columns _ _ (λ k. sym (spot_behind xs dead k dead_place)) g.columns in
    let rows : AreLines row_in grid.rows (xs ++ dead ∷ []) = lines_same row_in grid.rows _ _ (λ k. sym (spot_behind xs dead k dead_place)) g.rows in
    record {
      all = cells.all;
      exact = cells.exact;
      columns = lines_moved column_in n to grid.columns next.columns xs [] dead y m f (column (lies_there column_in n from grid.columns xs [] dead few m (dead_place ∙ sym e) columns)) columns;
      rows = lines_moved row_in n to grid.rows next.rows xs [] dead y m f (row (lies_there row_in n from grid.rows xs [] dead few m (dead_place ∙ sym e) rows)) rows;
    }

pub IsGrid-empty : (grid : GridParts) → length grid.cells ≡ 256 → ((k : ℕ) → get_or grid.cells k [] ≡ []) → ((line n : ℕ) → has grid.columns line n ≡ 0) → ((line n : ℕ) → has grid.rows line n ≡ 0) → IsGrid grid []
IsGrid-empty grid many empty columns rows = record {
  all = many;
  exact = λ c lt. empty c;
  columns = lines_none column_in grid.columns refl columns;
  rows = lines_none row_in grid.rows refl rows;
}

-- ---- object by object

pub IsGrid-step : (cells next : GridParts) (old now : List Object) (i : ℕ) (d e : Object) → i < length old → i < length now → ((before behind : List Object) → length before ≡ i → IsGrid cells (before ++ get_or old i d ∷ behind) → IsGrid next (before ++ get_or now i e ∷ behind)) → IsGrid cells (take i now ++ drop i old) → IsGrid next (take (i + 1) now ++ drop (i + 1) old)
IsGrid-step cells next old now i d e l m step g =
    let many : length (take i now) ≡ i = let t = length-take i now in omega (arith, t) in
    let was : IsGrid cells (take i now ++ get_or old i d ∷ drop (i + 1) old) = rw (drop_more old i d l) at g in
    rw (take_more now i e m, append_assoc) (step (take i now) (drop (i + 1) old) many was)

pub IsGrid-more : (cells next : GridParts) (now : List Object) (i : ℕ) (e : Object) → i < length now → ((before : List Object) → length before ≡ i → IsGrid cells before → IsGrid next (before ++ get_or now i e ∷ [])) → IsGrid cells (take i now) → IsGrid next (take (i + 1) now)
IsGrid-more cells next now i e m step g =
    let many : length (take i now) ≡ i = let t = length-take i now in omega (arith, t) in
    rw (take_more now i e m) (step (take i now) many g)
