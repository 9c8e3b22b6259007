-- What a client sees. Of the living objects these are its own player, all whose kind is always seen, and all that its
-- player sees: what isn't hidden from the player's team and is at most the radius away.
use Rattle.std.specs.Prelude.{ℕ, ◌+◌, ◌*◌, ◌/◌, List, Bool, false, not, ◌&&◌, ◌||◌, nat_le, if◌then◌else◌, Option, Some, None, find, slice_get, option_and_then}
use Rattle.std.specs.List.{filter_map, enumerate_from}
use Rattle.world_rules.specs.declared.object.Object.{Object}
use Rattle.world_rules.specs.Flags.{is_player}
use Rattle.world_cells.specs.Grid.{is_always}
use Rattle.world_sim.specs.Worlds.{Worlds}
use Rattle.world_scope.specs.declared.viewer.Seen.{Seen}
use Rattle.world_scope.specs.Sight.{distance, is_hidden}

-- a client, its player, and how far players see
pub record Look : Type 0 where
  pub client : ℕ
  pub player : Option Object
  pub radius : ℕ

abbrev pub look_of : Worlds → ℕ → Look
look_of w client = record { client = client; player = find (is_player client) w.objects; radius = w.radius }

-- what a player sees, if there is one
abbrev pub player_sees : ℕ → Option Object → Object → Bool
player_sees radius None o = false
player_sees radius (Some player) o = not (is_hidden player.team o) && nat_le (distance player.place o.place) radius

abbrev pub is_visible : Look → Object → Bool
is_visible v o = o.alive && (is_player v.client o || is_always o || player_sees v.radius v.player o)

-- which quarter of the radius an object lies in
abbrev pub quarter : ℕ → Option Object → Object → ℕ
quarter radius None o = 0
quarter radius (Some player) o = 4 * distance player.place o.place / (radius + 1)

abbrev pub level : Look → Object → ℕ
level v o = if is_player v.client o || is_always o then 0 else quarter v.radius v.player o

-- an object with its number, as it is seen
abbrev pub seen : Look → ℕ × Object → Option Seen
seen v e = if is_visible v e.1 then Some (record { object = e.0; level = level v e.1 }) else None

-- the object of this number as it is seen, if it is there and is seen
abbrev pub seen_at : Worlds → ℕ → ℕ → Option Seen
seen_at w client object = option_and_then (λ o. seen (look_of w client) (object, o)) (slice_get w.objects object)

-- the visible objects in the order of their numbers
unfoldable pub visible_list : Worlds → ℕ → List Seen
visible_list w client = filter_map (seen (look_of w client)) (enumerate_from 0 w.objects)
