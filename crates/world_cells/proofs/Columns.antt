-- A cell by its column and its row.
use Rattle.std.proofs.Common.{◌≡◌, ℕ, ◌+◌, ◌*◌, ◌/◌, ◌%◌, ◌<◌, Bool, true, false, cond, ◌&&◌, List, [], ◌∷◌, get_or, refl, ◌∙◌, arith, Some, None, nat_eq}
use Rattle.std.specs.List.{AllByRecursion}
use Rattle.std.proofs.lemmas.Bool.Decides.{nat_tests}
use Rattle.world_rules.specs.declared.object.Object.{Object}
use Rattle.world_rules.specs.Ranges.{ObjectFits}
use Rattle.world_cells.specs.Grid.{numbers, lies_at, has_place}
use Rattle.world_cells.specs.Lines.{GridParts}
use Rattle.world_cells.specs.Cells.{IsGrid, lies_in, is_cell}
use Rattle.world_cells.proofs.Numbers.{same_numbers_by}

pair_cell : (x y cx cy : ℕ) → x < 16 → y < 16 → cx < 16 → cy < 16 → nat_eq (y % 16 * 16 + x % 16) (cy * 16 + cx) ≡ (nat_eq x cx && nat_eq y cy)
pair_cell x y cx cy a b c d = grind (arith, nat_tests)

lies_by : (cx cy : ℕ) (o : Object) → cx < 16 → cy < 16 → ObjectFits o → lies_in (cy * 16 + cx) o ≡ lies_at cx cy o
lies_by cx cy o a b fits = by_life o.alive (has_place o.state) (cy * 16 + cx) _ _ (pair_cell (o.place.x / 4096) (o.place.y / 4096) cx cy (omega (arith, fits.place.0)) (omega (arith, fits.place.1)) a b)
  where
    by_life : (alive placed : Bool) (c d : ℕ) (e : Bool) → nat_eq d c ≡ e → is_cell c (cond (alive && placed) (Some d) None) ≡ (alive && (placed && e))
    by_life false placed c d e h = refl
    by_life true false c d e h = refl
    by_life true true c d e h = h

all_lie : (cx cy : ℕ) (os : List Object) → cx < 16 → cy < 16 → AllByRecursion ObjectFits os → AllByRecursion (λ o. lies_in (cy * 16 + cx) o ≡ lies_at cx cy o) os
all_lie cx cy [] a b fits = tt
all_lie cx cy (o ∷ os) a b fits = (lies_by cx cy o a b fits.0, all_lie cx cy os a b fits.1)

pub cell_tells : (grid : GridParts) (os : List Object) (cx cy : ℕ) → IsGrid grid os → AllByRecursion ObjectFits os → cx < 16 → cy < 16 → get_or grid.cells (cy * 16 + cx) [] ≡ numbers (lies_at cx cy) 0 os
cell_tells grid os cx cy g fits a b =
    g.exact (cy * 16 + cx) (omega arith)
    ∙ same_numbers_by (lies_in (cy * 16 + cx)) (lies_at cx cy) 0 os (all_lie cx cy os a b fits)
