-- Parts of the field, cell by cell and row by row.
use Rattle.std.proofs.Common.{◌≡◌, ℕ, ◌+◌, ◌-◌, ◌/◌, ◌<◌, ◌≤◌, Bool, true, false, ◌&&◌, ◌||◌, ◌==◌, nat_le, List, refl, sym, ap, arith, min}
use Rattle.std.specs.List.{AllByRecursion}
use Rattle.std.proofs.Math.Bool.{and-false, and-true}
use Rattle.std.proofs.lemmas.Bool.Decides.{nat_tests}
use Rattle.world_rules.specs.declared.object.Object.{Object}
use Rattle.world_rules.specs.declared.object.Place.{Place}
use Rattle.world_rules.specs.Ranges.{ObjectFits}
use Rattle.world_cells.specs.Grid.{has_place, lies_at, is_between, lies_between}
use Rattle.world_cells.proofs.Between.{fits_at}
use Rattle.world_scope.specs.Square.{is_round}
use Rattle.world_scope.specs.Candidates.{AreThose, either, is_in_row}
use Rattle.world_scope.proofs.Numbers.{one}
use Rattle.world_scope.proofs.Sets.{those_same}

between_more : (from c x : ℕ) → from ≤ c → one (is_between from (c + 1) x) ≡ one (is_between from c x) + one (x == c)
between_more from c x h = grind (arith, nat_tests)

glue_cell : (a b s p q r : Bool) → one p ≡ one q + one r → one (a && (b && (s && p))) ≡ one (a && (b && (s && q))) + one (a && (b && (r && s)))
glue_cell false b s p q r e = refl
glue_cell true false s p q r e = refl
glue_cell true true true p q true e = e
glue_cell true true true p q false e = e
glue_cell true true false p q true e = refl
glue_cell true true false p q false e = refl

glue_row : (a b t p q r : Bool) → one p ≡ one q + one r → one (a && (b && (p && t))) ≡ one (a && (b && (q && t))) + one (a && (b && (r && t)))
glue_row false b t p q r e = refl
glue_row true false t p q r e = refl
glue_row true true true p q r e = rw (and-true p, and-true q, and-true r) e
glue_row true true false p q r e = rw (and-false p, and-false q, and-false r) refl

row_split : (row from c : ℕ) → from ≤ c → (o : Object) → one (is_in_row row from (c + 1) o) ≡ one (is_in_row row from c o) + one (lies_at c row o)
row_split row from c h o =
    glue_cell o.alive (has_place o.state) (o.place.y / 4096 == row) _ _ _ (between_more from c (o.place.x / 4096) h)

part_split : (a b from c : ℕ) → from ≤ c → (o : Object) → one (lies_between a b from (c + 1) o) ≡ one (lies_between a b from c o) + one (is_in_row c a b o)
part_split a b from c h o =
    glue_row o.alive (has_place o.state) (is_between a b (o.place.x / 4096)) _ _ _ (between_more from c (o.place.y / 4096) h)

same_bits : (b c : Bool) → one c ≡ one b → b ≡ c
same_bits true true e = refl
same_bits false false e = refl
same_bits true false e = absurd (omega (arith, e))
same_bits false true e = absurd (omega (arith, e))

-- a test that is split into two tells the same as either
split_is : (p a b c : Bool) → one c ≡ one a + one b → ((p || a) || b) ≡ (p || c)
split_is true a b c e = refl
split_is false true b true e = refl
split_is false false b c e = same_bits b c (omega (arith, e))
split_is false true b false e = absurd (omega (arith, e))

between_none : (c x : ℕ) → is_between c c x ≡ false
between_none c x = grind (arith, nat_tests)

empty_row : (row c : ℕ) (o : Object) → is_in_row row c c o ≡ false
empty_row row c o = rw (between_none c (o.place.x / 4096), and-false (o.place.y / 4096 == row), and-false (has_place o.state), and-false o.alive) refl

empty_part : (a b c : ℕ) (o : Object) → lies_between a b c c o ≡ false
empty_part a b c o = rw (between_none c (o.place.y / 4096), and-false (has_place o.state), and-false o.alive) refl

none_is : (p a : Bool) → a ≡ false → p ≡ (p || a)
none_is true a e = refl
none_is false a e = sym e

-- ---- for the loops

pub row_none : (words : List ℕ) (p : Object → Bool) (os : List Object) (row c : ℕ) → AreThose words p os → AreThose words (either p (is_in_row row c c)) os
row_none words p os row c those = those_same words p (either p (is_in_row row c c)) os (λ n o at. none_is (p o) (is_in_row row c c o) (empty_row row c o)) those

pub row_more : (words : List ℕ) (p : Object → Bool) (os : List Object) (row from c : ℕ) → from ≤ c → AreThose words (either (either p (is_in_row row from c)) (lies_at c row)) os → AreThose words (either p (is_in_row row from (c + 1))) os
row_more words p os row from c h those =
    those_same words (either (either p (is_in_row row from c)) (lies_at c row)) (either p (is_in_row row from (c + 1))) os
    (λ n o at. split_is (p o) (is_in_row row from c o) (lies_at c row o) (is_in_row row from (c + 1) o) (row_split row from c h o)) those

pub part_none : (words : List ℕ) (p : Object → Bool) (os : List Object) (a b c : ℕ) → AreThose words p os → AreThose words (either p (lies_between a b c c)) os
part_none words p os a b c those = those_same words p (either p (lies_between a b c c)) os (λ n o at. none_is (p o) (lies_between a b c c o) (empty_part a b c o)) those

pub part_more : (words : List ℕ) (p : Object → Bool) (os : List Object) (a b from c : ℕ) → from ≤ c → AreThose words (either (either p (lies_between a b from c)) (is_in_row c a b)) os → AreThose words (either p (lies_between a b from (c + 1))) os
part_more words p os a b from c h those =
    those_same words (either (either p (lies_between a b from c)) (is_in_row c a b)) (either p (lies_between a b from (c + 1))) os
    (λ n o at. split_is (p o) (lies_between a b from c o) (is_in_row c a b o) (lies_between a b from (c + 1) o) (part_split a b from c h o)) those

-- ---- the square as columns and rows

within : (f e x : ℕ) → x < 16 → is_between (min f 16) (min (e + 1) 16) x ≡ (nat_le f x && nat_le x e)
within f e x h = grind (arith, nat_tests)

abbrev pub part_round : ℕ → Place → Object → Bool
part_round radius p o =
    lies_between (min ((p.x - radius) / 4096) 16) (min ((p.x + radius) / 4096 + 1) 16) (min ((p.y - radius) / 4096) 16) (min ((p.y + radius) / 4096 + 1) 16) o

round_is : (radius : ℕ) (p : Place) (o : Object) → ObjectFits o → part_round radius p o ≡ is_round radius p o
round_is radius p o fits =
    let x : o.place.x / 4096 < 16 = omega (arith, fits.place.0) in
    let y : o.place.y / 4096 < 16 = omega (arith, fits.place.1) in
    rw (within ((p.x - radius) / 4096) ((p.x + radius) / 4096) (o.place.x / 4096) x, within ((p.y - radius) / 4096) ((p.y + radius) / 4096) (o.place.y / 4096) y) refl

pub round_those : (words : List ℕ) (p : Object → Bool) (os : List Object) (radius : ℕ) (place : Place) → AllByRecursion ObjectFits os → AreThose words (either p (part_round radius place)) os → AreThose words (either p (is_round radius place)) os
round_those words p os radius place fits those =
    those_same words (either p (part_round radius place)) (either p (is_round radius place)) os
    (λ n o at. ap (λ b. p o || b) (round_is radius place o (fits_at os n o fits at))) those
