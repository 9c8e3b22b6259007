-- What a tick finds of the objects before anything moves: those that matter to others, in the order of their numbers, and
-- a mark for each object that ends in the tick.
use Rattle.std.specs.Prelude.{◌≡◌, ℕ, zero, suc, ◌⊎◌, ◌&&◌, ◌||◌, Bool, true, false, List, [], ◌∷◌, ◌≤◌, length, filter, map}
use Rattle.std.specs.List.{list_any, AllByRecursion}
use Rattle.tn_types.specs.declared.limits.TheConstants.{MAX_OBJECTS}
use Rattle.world_rules.specs.declared.measures.TheConstants.{MINE_REACH}
use Rattle.world_rules.specs.declared.object.Object.{Object}
use Rattle.world_rules.specs.declared.object.State.{State}
use Rattle.world_rules.specs.declared.object.State.TheVariants.{Player, Flag}
use Rattle.world_sim.specs.declared.found.Found.{Found}
use Rattle.world_rules.specs.Near.{is_standing, is_other_near}
use Rattle.world_rules.specs.Discs.{is_hitting}
use Rattle.world_rules.specs.Mines.{is_armed, is_triggered}

-- an armed mine that is near one of these
abbrev pub is_triggered_by : List Object → Object → Bool
is_triggered_by standing o = is_armed o && list_any (is_other_near MINE_REACH o) standing

-- a disc that hits or a mine that is triggered
abbrev pub is_ending : List Object → Object → Bool
is_ending os o = is_hitting os o || is_triggered os o

abbrev pub is_flag_part : State → Bool
is_flag_part (Flag f) = true
is_flag_part _ = false

abbrev pub is_flag : Object → Bool
is_flag o = is_flag_part o.state

-- anybody's player
abbrev pub is_players_part : State → Bool
is_players_part (Player p) = true
is_players_part _ = false

abbrev pub is_players : Object → Bool
is_players o = is_players_part o.state

-- none of these is a player
abbrev pub AreOthers : List Object → Type 0
AreOthers os = AllByRecursion (λ o. is_players o ≡ false) os

-- the players stand before all others
abbrev pub PlayersFirst : List Object → Type 0
PlayersFirst [] = Unit {0}
PlayersFirst (o ∷ os) = ((is_players o ≡ true) × PlayersFirst os) ⊎ AreOthers (o ∷ os)

-- at this place stands none that is a player
abbrev pub IsPlayersEnd : List Object → ℕ → Type 0
IsPlayersEnd [] n = Unit {0}
IsPlayersEnd (o ∷ os) zero = is_players o ≡ false
IsPlayersEnd (o ∷ os) (suc n) = IsPlayersEnd os n

pub record AreFound (os : List Object) (found : Found) : Type 0 where
  pub players_are : found.players.items ≡ filter is_players os
  pub standing_are : found.standing.items ≡ filter is_standing os
  pub flags_are : found.picked.flags.items ≡ filter is_flag os
  pub hitting_are : found.picked.hitting.items ≡ filter (is_hitting os) os
  pub triggered_are : found.picked.triggered.items ≡ filter (is_triggered os) os
  pub marks_are : found.picked.marks.items ≡ map (is_ending os) os

-- no more discs hit and no more mines are triggered than there may be objects, and those that stand are among the players
pub record FoundFits (found : Found) : Type 0 where
  pub discs : length found.picked.hitting.items ≤ MAX_OBJECTS
  pub mines : length found.picked.triggered.items ≤ MAX_OBJECTS
  pub standing : found.standing.items ≡ filter is_standing found.players.items
