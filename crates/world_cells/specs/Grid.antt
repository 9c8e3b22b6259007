-- Where objects lie, by 16 by 16 cells, and which of them every client sees. A clock has no place.
use Rattle.std.specs.Prelude.{ℕ, ℤ, pos, suc, ◌/◌, Bool, true, false, ◌&&◌, ◌==◌, nat_le, nat_lt, List, [], ◌∷◌, Option, Some, None, slice_get, if◌then◌else◌}
use Rattle.std.specs.Option.{option_map_or}
use Rattle.world_rules.specs.declared.object.Object.{Object}
use Rattle.world_rules.specs.declared.object.State.{State}
use Rattle.world_rules.specs.declared.object.State.TheVariants.{Clock}
use Rattle.world_rules.specs.Kinds.{kind_of, match_kinds}
use Rattle.world_cells.specs.declared.cells.TheConstants.{CELL_SIDE}

abbrev pub has_place : State → Bool
has_place (Clock c) = false
has_place _ = true

-- alive, with a place in the cell of this column and this row
abbrev pub lies_at : ℕ → ℕ → Object → Bool
lies_at cx cy o = o.alive && (has_place o.state && (o.place.x / CELL_SIDE == cx && o.place.y / CELL_SIDE == cy))

-- from one line on and before another
abbrev pub is_between : ℕ → ℕ → ℕ → Bool
is_between from to x = nat_le from x && nat_lt x to

-- alive, with a place in the columns from a on and before b and in the rows from c on and before d
abbrev pub lies_between : ℕ → ℕ → ℕ → ℕ → Object → Bool
lies_between a b c d o =
    o.alive && (has_place o.state && (is_between c d (o.place.y / CELL_SIDE) && is_between a b (o.place.x / CELL_SIDE)))

-- the kind of the object is always seen
abbrev pub is_always : Object → Bool
is_always o = option_map_or (λ kind. kind.always) (slice_get match_kinds (kind_of o.state)) false

-- alive, of a kind that is always seen
abbrev pub lasts : Object → Bool
lasts o = o.alive && is_always o

-- the numbers of those that pass, rising, where the first object has number k
abbrev pub numbers : (Object → Bool) → ℕ → List Object → List ℕ
numbers p k [] = []
numbers p k (o ∷ os) = if p o then k ∷ numbers p (suc k) os else numbers p (suc k) os

abbrev pub place_told : Object → Option (ℤ × ℤ)
place_told o = if has_place o.state then Some (pos o.place.x, pos o.place.y) else None
