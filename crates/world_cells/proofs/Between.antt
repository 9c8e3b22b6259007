-- Which objects lie between two columns and two rows, by the bits of both.
use Rattle.std.proofs.Common.{◌≡◌, ℕ, zero, suc, ◌+◌, ◌-◌, ◌*◌, ◌/◌, ◌%◌, ◌<◌, ◌≤◌, min, Bool, true, false, cond, ◌&&◌, List, [], ◌∷◌, refl, sym, ap, ◌∙◌, arith, Some, None, Option, bit_and}
use Rattle.std.specs.Prelude.{slice_get, option_and_then}
use Rattle.std.specs.Int.{bit_at}
use Rattle.std.specs.Option.{option_map_or}
use Rattle.std.specs.List.{AllByRecursion}
use Rattle.std.proofs.lemmas.Nat.Bits.{bit_at_and}
use Rattle.std.proofs.lemmas.Bool.Decides.{nat_tests}
use Rattle.world_rules.specs.declared.object.Object.{Object}
use Rattle.world_rules.specs.Ranges.{ObjectFits}
use Rattle.world_cells.specs.Grid.{has_place, is_between, lies_between}
use Rattle.world_cells.specs.Lines.{GridParts, has, is_before, AreBits}
use Rattle.world_cells.specs.Cells.{spot, spot_at, column_in, row_in, IsGrid}

abbrev bit : Bool → ℕ
bit b = cond b 1 0

one_line : (from to at : ℕ) → min (is_before to at) (1 - is_before from at) ≡ bit (is_between from to at)
one_line from to at = grind (arith, nat_tests)

both_bits : (p q : Bool) → min (bit p) (bit q) ≡ bit (q && p)
both_bits true true = refl
both_bits true false = refl
both_bits false true = refl
both_bits false false = refl

nowhere : (from to : ℕ) → to ≤ 16 → is_between from to 16 ≡ false
nowhere from to l = grind (arith, nat_tests)

pub fits_at : (os : List Object) (n : ℕ) (o : Object) → AllByRecursion ObjectFits os → slice_get os n ≡ Some o → ObjectFits o
fits_at [] n o fits e = absurd (cc)
fits_at (x ∷ os) zero o fits e = let same : x ≡ o = cc in rw (sym same) fits.0
fits_at (x ∷ os) (suc n) o fits e = fits_at os n o fits.1 e

-- where a spot lies, by its column and its row
abbrev inside : ℕ → ℕ → ℕ → ℕ → Option ℕ → Bool
inside a b c d s = is_between c d (row_in s) && is_between a b (column_in s)

by_life : (alive placed : Bool) (a b c d x y : ℕ) → b ≤ 16 → x < 16 → y < 16 → inside a b c d (cond (alive && placed) (Some (y % 16 * 16 + x % 16)) None) ≡ (alive && (placed && (is_between c d y && is_between a b x)))
by_life false placed a b c d x y l lx ly = rw (nowhere a b l) (falls (is_between c d 16))
  where
    falls : (b : Bool) → (b && false) ≡ false
    falls true = refl
    falls false = refl
by_life true false a b c d x y l lx ly = rw (nowhere a b l) (falls (is_between c d 16))
  where
    falls : (b : Bool) → (b && false) ≡ false
    falls true = refl
    falls false = refl
by_life true true a b c d x y l lx ly =
    let column : (y % 16 * 16 + x % 16) % 16 ≡ x = omega (arith, lx, ly) in
    let row : (y % 16 * 16 + x % 16) / 16 ≡ y = omega (arith, lx, ly) in
    rw (column, row) refl

of_object : (a b c d : ℕ) (o : Object) → b ≤ 16 → ObjectFits o → inside a b c d (spot o) ≡ lies_between a b c d o
of_object a b c d o l fits =
    by_life o.alive (has_place o.state) a b c d (o.place.x / 4096) (o.place.y / 4096) l (omega (arith, fits.place.0)) (omega (arith, fits.place.1))

at_number : (a b c d n : ℕ) (os : List Object) (o : Option Object) → b ≤ 16 → AllByRecursion ObjectFits os → slice_get os n ≡ o → inside a b c d (option_and_then spot o) ≡ option_map_or (lies_between a b c d) o false
at_number a b c d n os None l fits e = rw (nowhere a b l) (falls (is_between c d 16))
  where
    falls : (b : Bool) → (b && false) ≡ false
    falls true = refl
    falls false = refl
at_number a b c d n os (Some o) l fits e = of_object a b c d o l (fits_at os n o fits e)

pub between_tells : (grid : GridParts) (os : List Object) (columns rows word a b c d : ℕ) → IsGrid grid os → AllByRecursion ObjectFits os → word < 16 → a ≤ 16 → b ≤ 16 → c ≤ 16 → d ≤ 16 → ((k : ℕ) → k < 64 → bit_at columns k ≡ min (has grid.columns b (64 * word + k)) (1 - has grid.columns a (64 * word + k))) → ((k : ℕ) → k < 64 → bit_at rows k ≡ min (has grid.rows d (64 * word + k)) (1 - has grid.rows c (64 * word + k))) → AreBits (bit_and columns rows) (64 * word) 64 (lies_between a b c d) os
between_tells grid os columns rows word a b c d g fits lw la lb lc ld hx hy = λ k lt.
    let n = 64 * word + k in
    let few : n < 1024 = omega (arith, lw, lt) in
    let s = spot_at os n in
    let x : bit_at columns k ≡ bit (is_between a b (column_in s)) =
    hx k lt ∙ rw (g.columns b n lb few, g.columns a n la few) (one_line a b (column_in s)) in
    let y : bit_at rows k ≡ bit (is_between c d (row_in s)) =
    hy k lt ∙ rw (g.rows d n ld few, g.rows c n lc few) (one_line c d (row_in s)) in
    bit_at_and columns rows k ∙ rw (x, y) (both_bits (is_between a b (column_in s)) (is_between c d (row_in s)))
    ∙ ap bit (at_number a b c d n os (slice_get os n) lb fits refl)
