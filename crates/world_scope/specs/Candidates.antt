-- Which objects a scan looks at, as a set of numbers with a bit for each, and what its looks give.
use Rattle.std.specs.Prelude.{◌≡◌, ℕ, ◌/◌, ◌<◌, Bool, true, false, ◌==◌, ◌&&◌, ◌||◌, List, drop, Option, Some, None, slice_get, option_and_then, if◌then◌else◌}
use Rattle.std.specs.Option.{option_map_or}
use Rattle.std.specs.List.{filter_map, enumerate_from}
use Rattle.world_rules.specs.declared.object.Object.{Object}
use Rattle.world_rules.specs.Flags.{is_player}
use Rattle.world_cells.specs.declared.cells.TheConstants.{CELL_SIDE}
use Rattle.world_cells.specs.Grid.{has_place, is_between, lasts}
use Rattle.world_cells.specs.NumberSet.{bit_of}
use Rattle.world_scope.specs.declared.viewer.Seen.{Seen}
use Rattle.world_scope.specs.Scope.{Look, seen}
use Rattle.world_scope.specs.Square.{is_round}

-- the set has the numbers of the objects that pass, and no other
abbrev pub AreThose : List ℕ → (Object → Bool) → List Object → Type 0
AreThose words p os = (n : ℕ) → n < 1024 → bit_of words n ≡ (if option_map_or p (slice_get os n) false then 1 else 0)

-- what passes one of two tests
abbrev pub either : (Object → Bool) → (Object → Bool) → Object → Bool
either p q o = p o || q o

-- alive, with a place in this row and in the columns from one on and before another
abbrev pub is_in_row : ℕ → ℕ → ℕ → Object → Bool
is_in_row cy from to o = o.alive && (has_place o.state && (o.place.y / CELL_SIDE == cy && is_between from to (o.place.x / CELL_SIDE)))

-- round the player, if there is one
abbrev pub is_near : ℕ → Option Object → Object → Bool
is_near radius None o = false
is_near radius (Some player) o = is_round radius player.place o

-- what is looked at
abbrev pub may_see : Look → Object → Bool
may_see v o = lasts o || is_near v.radius v.player o

-- the client has no player but the one that looks
abbrev pub HasOnePlayer : Look → List Object → Type 0
HasOnePlayer v os = (n : ℕ) (o : Object) → slice_get os n ≡ Some o → is_player v.client o ≡ true → v.player ≡ Some o

-- the object of this number as it is seen, if it is there and is seen
abbrev pub seen_in : Look → List Object → ℕ → Option Seen
seen_in v os n = option_and_then (λ o. seen v (n, o)) (slice_get os n)

-- what is seen of the objects from this number on
abbrev pub to_come : Look → List Object → ℕ → List Seen
to_come v os i = filter_map (seen v) (enumerate_from i (drop i os))
