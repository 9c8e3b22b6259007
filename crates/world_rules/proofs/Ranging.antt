-- Every rule keeps the ranges of the world and the kind of each object.
use Rattle.std.proofs.Common.{ℕ, zero, suc, ◌-◌, ◌≤◌, Bool, true, false, cond, not, ◌||◌, nat_lt, nat_le, nat_eq, List, [], ◌∷◌, ◌++◌, length, take, map, Option, Some, None, arith}
use Rattle.std.specs.Prelude.{ℤ, pos, negsuc, find}
use Rattle.std.specs.List.{AllByRecursion, All, filter_map, cons_option}
use Rattle.std.proofs.lemmas.List.Elements.{recursion_from_All}
use Rattle.tn_types.specs.declared.moves.Move.{Move}
use Rattle.tn_types.specs.declared.moves.MoveBits.{MoveBits}
use Rattle.world_rules.specs.declared.kinds.TheConstants.{MINE, DRONE, FLAG}
use Rattle.world_rules.specs.declared.object.Place.{Place}
use Rattle.world_rules.specs.declared.object.Object.{Object}
use Rattle.world_rules.specs.declared.object.State.{State}
use Rattle.world_rules.specs.declared.object.State.TheVariants.{Player, Disc, Mine, Drone, Flag, Clock}
use Rattle.world_rules.specs.declared.object.Player.{Player as PlayerPart}
use Rattle.world_rules.specs.declared.object.Disc.{Disc as DiscPart}
use Rattle.world_rules.specs.declared.object.Mine.{Mine as MinePart}
use Rattle.world_rules.specs.declared.object.Drone.{Drone as DronePart}
use Rattle.world_rules.specs.declared.object.Clock.{Clock as ClockPart}
use Rattle.world_rules.specs.declared.setup.Spawn.{Spawn}
use Rattle.std.specs.Option.{option_or}
use Rattle.world_rules.specs.declared.object.TheConstants.{MAX_AGE}
use Rattle.world_rules.specs.declared.measures.TheConstants.{ARMING_AGE, FLAG_REACH}
use Rattle.world_rules.specs.Places.{clamp, stepped}
use Rattle.world_rules.specs.Moves.{move_of}
use Rattle.world_rules.specs.Near.{is_standing, is_enemy_near}
use Rattle.world_rules.specs.Discs.{is_leaving, disc_next, harm, hits, is_hitting, aged}
use Rattle.world_rules.specs.Mines.{mine_next, is_triggered}
use Rattle.world_rules.specs.Players.{player_next, is_firing, fired_by, fired_part, fired, damage}
use Rattle.world_rules.specs.Drones.{drone_next, drawn}
use Rattle.world_rules.specs.Flags.{flag_next, carried, went_home, is_home, taker, taking, using_part, is_player, captures}
use Rattle.world_rules.specs.Clocks.{clock_next}
use Rattle.world_rules.specs.Next.{by_kind, object_next, Moment}
use Rattle.world_rules.specs.Next.{objects_next, discs_made}
use Rattle.world_rules.specs.Spawning.{state_at_first, first_objects, SpawnFits, OwnerFits}
use Rattle.world_rules.specs.Ranges.{PlaceFits, HolderFits, StateFits, ObjectFits}

-- one of two
either : {A : Type 0} (P : A → Type 0) (b : Bool) (x y : A) → P x → P y → P (cond b x y)
either P true x y p q = p
either P false x y p q = q

clamp_fits : (z : ℤ) → clamp z ≤ 65535
clamp_fits (pos n) = omega arith
clamp_fits (negsuc n) = omega arith

stepped_fits : (p : Place) (m : Move) → PlaceFits (stepped p m)
stepped_fits p m = (clamp_fits _, clamp_fits _)

fits_at : (o : Object) (alive : Bool) (place : Place) (s : State) → ObjectFits o → PlaceFits place → StateFits s → ObjectFits (record o { alive = alive; place = place; state = s })
fits_at o alive place s h p q = record { block = h.block; team = h.team; home = h.home; place = p; state = q }

spent_fits : (b : Bool) (ammo : ℕ) → ammo ≤ 20 → cond b (ammo - 1) ammo ≤ 20
spent_fits true ammo h = omega arith
spent_fits false ammo h = h

player_fits : (harm scored : ℕ) (o : Object) (p : PlayerPart) (m : Move) → ObjectFits o → StateFits (Player p) → ObjectFits (player_next harm scored o p m)
unfolding player_next
player_fits harm scored o p m h s = either ObjectFits (nat_lt 0 p.hp) _ _
    (fits_at o o.alive (stepped o.place m) _ h (stepped_fits o.place m) (s.0, omega (arith, s.1), spent_fits m.fire p.ammo s.2, omega arith))
    (fits_at o o.alive o.home _ h h.home (s.0, omega arith, omega arith, omega arith))

disc_fits : (hitting : Bool) (o : Object) (d : DiscPart) → ObjectFits o → StateFits (Disc d) → ObjectFits (disc_next hitting o d)
unfolding disc_next
disc_fits hitting o d h s = either ObjectFits (not o.alive) o _ h (either ObjectFits hitting _ _ (fits_at o false o.place o.state h h.place h.state)
    (either ObjectFits (nat_le MAX_AGE (aged d.age) || is_leaving o.place d) _ _
    (fits_at o false o.place (Disc (record d { age = aged d.age })) h h.place (omega arith))
    (fits_at o o.alive _ (Disc (record d { age = aged d.age })) h (clamp_fits _, clamp_fits _) (omega arith))))

mine_fits : (triggered : Bool) (o : Object) (m : MinePart) → ObjectFits o → StateFits (Mine m) → ObjectFits (mine_next triggered o m)
unfolding mine_next
mine_fits triggered o m h s = either ObjectFits (not o.alive) o _ h (either ObjectFits triggered _ _ (fits_at o false o.place o.state h h.place h.state)
    (fits_at o o.alive o.place (Mine (record { armed = m.armed || nat_le ARMING_AGE (aged m.age); age = aged m.age })) h h.place (omega arith)))

drone_fits : (r harm : ℕ) (o : Object) (d : DronePart) → ObjectFits o → StateFits (Drone d) → ObjectFits (drone_next r harm o d)
unfolding drone_next
drone_fits r harm o d h s = either ObjectFits (not o.alive) o _ h (fits_at o (nat_lt harm d.hp) _ (Drone (record d { hp = d.hp - harm })) h (clamp_fits _, clamp_fits _) (omega (arith, s)))

home_fits : (o : Object) → ObjectFits o → ObjectFits (went_home o)
home_fits o h = fits_at o o.alive o.home (Flag (record { holder = None })) h h.home tt

carried_fits : (moves : List (Option MoveBits)) (o : Object) (client : ℕ) (p : Option Object) → ObjectFits o → ObjectFits (carried moves o client p)
carried_fits moves o client None h = home_fits o h
carried_fits moves o client (Some p) h = either ObjectFits (not (is_standing p)) _ _ (home_fits o h) (either ObjectFits (is_home p) _ _ (home_fits o h)
    (fits_at o o.alive (stepped p.place (move_of moves client)) o.state h (stepped_fits p.place (move_of moves client)) h.state))

using_fits : (moves : List (Option MoveBits)) (s : State) → StateFits s → HolderFits (using_part moves s)
using_fits moves (Player p) h = either HolderFits (move_of moves p.client).act _ _ h.0 tt
using_fits moves (Disc d) h = tt
using_fits moves (Mine m) h = tt
using_fits moves (Drone d) h = tt
using_fits moves (Flag f) h = tt
using_fits moves (Clock c) h = tt

first_fits : (a b : Option ℕ) → HolderFits a → HolderFits b → HolderFits (option_or a b)
first_fits None b h k = k
first_fits (Some c) b h k = h

taker_fits : (os : List Object) (moves : List (Option MoveBits)) (o : Object) → AllByRecursion ObjectFits os → HolderFits (taker os moves o)
taker_fits [] moves o h = tt
taker_fits (p ∷ os) moves o h = first_fits (taking moves o p) (taker os moves o) (either HolderFits (is_enemy_near FLAG_REACH o p) _ _ (using_fits moves p.state h.0.state) tt) (taker_fits os moves o h.1)

flag_fits : (os : List Object) (moves : List (Option MoveBits)) (o : Object) (holder : Option ℕ) → AllByRecursion ObjectFits os → ObjectFits o → ObjectFits (flag_next os moves o holder)
unfolding flag_next
flag_fits os moves o None all h = fits_at o o.alive o.place (Flag (record { holder = taker os moves o })) h h.place (taker_fits os moves o all)
flag_fits os moves o (Some client) all h = carried_fits moves o client (find (is_player client) os) h

clock_fits : (red blue : ℕ) (o : Object) (c : ClockPart) → ObjectFits o → ObjectFits (clock_next red blue o c)
unfolding clock_next
clock_fits red blue o c h = fits_at o o.alive o.place _ h h.place (omega arith, omega arith, omega arith)

kind_fits : (os : List Object) (moves : List (Option MoveBits)) (t : Moment) (o : Object) (s : State) → AllByRecursion ObjectFits os → ObjectFits o → StateFits s → ObjectFits (by_kind os moves t o s)
kind_fits os moves t o (Player p) all h k = player_fits (damage os o) (hits os p.client) o p (move_of moves p.client) h k
kind_fits os moves t o (Disc d) all h k = disc_fits (is_hitting os o) o d h k
kind_fits os moves t o (Mine m) all h k = mine_fits (is_triggered os o) o m h k
kind_fits os moves t o (Drone d) all h k = drone_fits (drawn t.seed d.number t.tick) (harm os o) o d h k
kind_fits os moves t o (Flag f) all h k = flag_fits os moves o f.holder all h
kind_fits os moves t o (Clock c) all h k = clock_fits (captures os 0) (captures os 1) o c h

next_fits : (os : List Object) (moves : List (Option MoveBits)) (t : Moment) (xs : List Object) → AllByRecursion ObjectFits os → AllByRecursion ObjectFits xs → AllByRecursion ObjectFits (map (object_next os moves t) xs)
next_fits os moves t [] all h = tt
next_fits os moves t (o ∷ xs) all h = (kind_fits os moves t o o.state all h.0 h.0.state, next_fits os moves t xs all h.1)

-- ---- discs that are made

abbrev MadeFits : Option Object → Type 0
MadeFits None = Unit {0}
MadeFits (Some o) = ObjectFits o

fired_by_fits : (o : Object) (p : PlayerPart) (m : Move) → ObjectFits o → MadeFits (fired_by o p m)
unfolding fired_by
fired_by_fits o p m h = either MadeFits (is_firing p m) _ _
    (record { block = h.block; team = h.team; home = stepped_fits o.place m; place = stepped_fits o.place m; state = omega arith }) tt

fired_fits : (moves : List (Option MoveBits)) (o : Object) (s : State) → ObjectFits o → MadeFits (fired_part moves o s)
fired_fits moves o (Player p) h = fired_by_fits o p (move_of moves p.client) h
fired_fits moves o (Disc d) h = tt
fired_fits moves o (Mine m) h = tt
fired_fits moves o (Drone d) h = tt
fired_fits moves o (Flag f) h = tt
fired_fits moves o (Clock c) h = tt

made_fits : (moves : List (Option MoveBits)) (xs : List Object) → AllByRecursion ObjectFits xs → AllByRecursion ObjectFits (filter_map (fired moves) xs)
made_fits moves [] h = tt
made_fits moves (o ∷ xs) h = onto (fired moves o) (filter_map (fired moves) xs) (fired_fits moves o o.state h.0) (made_fits moves xs h.1)
  where
    onto : (made : Option Object) (rest : List Object) → MadeFits made → AllByRecursion ObjectFits rest → AllByRecursion ObjectFits (cons_option made rest)
    onto None rest h k = k
    onto (Some d) rest h k = (h, k)

take_fits : (n : ℕ) (xs : List Object) → AllByRecursion ObjectFits xs → AllByRecursion ObjectFits (take n xs)
take_fits zero xs h = tt
take_fits (suc n) [] h = tt
take_fits (suc n) (x ∷ xs) h = (h.0, take_fits n xs h.1)

append_fits : (xs ys : List Object) → AllByRecursion ObjectFits xs → AllByRecursion ObjectFits ys → AllByRecursion ObjectFits (xs ++ ys)
append_fits [] ys h k = k
append_fits (x ∷ xs) ys h k = (h.0, append_fits xs ys h.1 k)

pub objects_fit : (os : List Object) (moves : List (Option MoveBits)) (t : Moment) → AllByRecursion ObjectFits os → AllByRecursion ObjectFits (objects_next os moves t)
unfolding discs_made
objects_fit os moves t h = append_fits (map (object_next os moves t) os) (take (1024 - length os) (filter_map (fired moves) os)) (next_fits os moves t os h h) (take_fits (1024 - length os) (filter_map (fired moves) os) (made_fits moves os h))

-- ---- the start

owner_fits : (number clients kind : ℕ) (owner : Option ℕ) → clients ≤ 16 → OwnerFits clients kind owner → StateFits (state_at_first number kind owner)
owner_fits number clients kind (Some client) few h = (omega (arith, h.1), omega arith, omega arith, omega arith)
owner_fits number clients kind None few h = either StateFits (nat_eq kind MINE) _ _ (omega arith) (either StateFits (nat_eq kind DRONE) _ _ (omega arith) (either StateFits (nat_eq kind FLAG) _ _ tt (omega arith, omega arith, omega arith)))

starts_fit : (clients number : ℕ) (spawns : List Spawn) → clients ≤ 16 → AllByRecursion (SpawnFits clients) spawns → AllByRecursion ObjectFits (first_objects number spawns)
starts_fit clients number [] few h = tt
starts_fit clients number (s ∷ spawns) few h = (
  record { block = h.0.block; team = h.0.team; home = (clamp_fits s.x, clamp_fits s.y); place = (clamp_fits s.x, clamp_fits s.y); state = owner_fits number clients s.kind s.owner few h.0.owner },
  starts_fit clients (suc number) spawns few h.1,
)

pub first_objects_fit : (clients : ℕ) (spawns : List Spawn) → clients ≤ 16 → All (SpawnFits clients) spawns → AllByRecursion ObjectFits (first_objects 0 spawns)
first_objects_fit clients spawns few h = starts_fit clients 0 spawns few (recursion_from_All (SpawnFits clients) spawns h)
