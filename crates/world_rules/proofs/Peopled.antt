-- Who plays in a match stays as it was at the start, tick after tick.
use Rattle.std.proofs.Common.{◌≡◌, ℕ, zero, suc, ◌+◌, ◌-◌, Bool, true, false, cond, not, ◌||◌, ◌==◌, nat_lt, nat_le, nat_eq, List, [], ◌∷◌, ◌++◌, length, take, map, Option, Some, None, refl, sym, ap, subst, ◌∙◌, arith}
use Rattle.std.specs.Prelude.{find}
use Rattle.std.specs.List.{AllByRecursion, list_any, filter_map, cons_option, position_from}
use Rattle.std.specs.Option.{option_or}
use Rattle.std.proofs.lemmas.Bool.Decides.{nat_tests}
use Rattle.tn_types.specs.declared.moves.MoveBits.{MoveBits}
use Rattle.tn_types.specs.declared.limits.TheConstants.{MAX_OBJECTS}
use Rattle.world_rules.specs.declared.kinds.TheConstants.{MINE, DRONE, FLAG}
use Rattle.world_rules.specs.declared.measures.TheConstants.{FLAG_REACH}
use Rattle.world_rules.specs.declared.object.TheConstants.{MAX_AGE}
use Rattle.world_rules.specs.declared.object.Object.{Object}
use Rattle.world_rules.specs.declared.object.State.{State}
use Rattle.world_rules.specs.declared.object.State.TheVariants.{Player, Disc, Mine, Drone, Flag, Clock}
use Rattle.world_rules.specs.Near.{is_standing, is_enemy_near}
use Rattle.world_rules.specs.Moves.{move_of}
use Rattle.world_rules.specs.Discs.{disc_next, is_leaving, is_hitting, aged}
use Rattle.world_rules.specs.Mines.{mine_next, is_triggered}
use Rattle.world_rules.specs.Players.{player_next, fired_by, fired_part, fired, is_firing}
use Rattle.world_rules.specs.Drones.{drone_next}
use Rattle.world_rules.specs.Flags.{flag_next, carried, is_player, is_player_part, is_home, taker, taking, using_part}
use Rattle.world_rules.specs.Clocks.{clock_next}
use Rattle.world_rules.specs.Next.{by_kind, object_next, discs_made, objects_next, Moment}
use Rattle.world_rules.specs.declared.setup.Spawn.{Spawn}
use Rattle.world_rules.specs.Spawning.{state_at_first, first_objects}
use Rattle.world_rules.specs.Identity.{Identity, identity_of, identities, owners, numbers, owner_in, number_in, holder_in, is_owner, lives_on, LivesOn, HolderPlays, OwnersRise, HaveNoOwner, NumbersFit, NumberFits, IsPeopled}
use Rattle.world_rules.proofs.Identities.{stays_itself, stay_themselves}

either : (P : Object → Type 0) (b : Bool) (x y : Object) → P x → P y → P (cond b x y)
either P true x y p q = p
either P false x y p q = q

-- ---- who lives on

never : false ≡ true → ⊥
never e = cc

mortal : (o : Object) (s : State) (alive : Bool) → o.state ≡ s → lives_on s ≡ false → lives_on o.state ≡ true → alive ≡ true
mortal o s alive e dies lives = absurd (never (sym dies ∙ sym (ap lives_on e) ∙ lives))

lasting : (o : Object) (s : State) → o.state ≡ s → lives_on s ≡ true → LivesOn o → o.alive ≡ true
lasting o s e lives h = h (ap lives_on e ∙ lives)

carried_lives : (moves : List (Option MoveBits)) (o : Object) (client : ℕ) (p : Option Object) → o.alive ≡ true → LivesOn (carried moves o client p)
carried_lives moves o client None h = λ _. h
carried_lives moves o client (Some p) h = either LivesOn (not (is_standing p)) _ _ (λ _. h) (either LivesOn (is_home p) _ _ (λ _. h) (λ _. h))

by_kind_lives : (os : List Object) (moves : List (Option MoveBits)) (t : Moment) (o : Object) (s : State) → o.state ≡ s → LivesOn o → LivesOn (by_kind os moves t o s)
unfolding player_next disc_next mine_next drone_next flag_next clock_next
by_kind_lives os moves t o (Player p) e h =
    let alive : o.alive ≡ true = lasting o (Player p) e refl h in
    either LivesOn (nat_lt 0 p.hp) _ _ (λ _. alive) (λ _. alive)
by_kind_lives os moves t o (Disc d) e h =
    either LivesOn (not o.alive) o _ h (either LivesOn (is_hitting os o) _ _ (mortal o (Disc d) false e refl)
    (either LivesOn (nat_le MAX_AGE (aged d.age) || is_leaving o.place d) _ _ (λ lives. absurd (never lives)) (λ lives. absurd (never lives))))
by_kind_lives os moves t o (Mine m) e h =
    either LivesOn (not o.alive) o _ h (either LivesOn (is_triggered os o) _ _ (mortal o (Mine m) false e refl) (λ lives. absurd (never lives)))
by_kind_lives os moves t o (Drone d) e h = either LivesOn (not o.alive) o _ h (λ lives. absurd (never lives))
by_kind_lives os moves t o (Flag f) e h = held f.holder
  where
    held : (holder : Option ℕ) → LivesOn (flag_next os moves o holder)
    held None = λ _. lasting o (Flag f) e refl h
    held (Some client) = carried_lives moves o client (find (is_player client) os) (lasting o (Flag f) e refl h)
by_kind_lives os moves t o (Clock c) e h = λ _. lasting o (Clock c) e refl h

all_live : (os : List Object) (moves : List (Option MoveBits)) (t : Moment) (xs : List Object) → AllByRecursion LivesOn xs → AllByRecursion LivesOn (map (object_next os moves t) xs)
all_live os moves t [] h = tt
all_live os moves t (o ∷ xs) h = (by_kind_lives os moves t o o.state refl h.0, all_live os moves t xs h.1)

-- ---- discs that are made

record IsPlain (o : Object) : Type 0 where
  pub owner : owner_in o.state ≡ None
  pub number : number_in o.state ≡ None
  pub holder : holder_in o.state ≡ None
  pub lives : LivesOn o

abbrev MadePlain : Option Object → Type 0
MadePlain None = Unit {0}
MadePlain (Some o) = IsPlain o

by_choice : (b : Bool) (x : Option Object) → MadePlain x → MadePlain (cond b x None)
by_choice true x h = h
by_choice false x h = tt

fired_plain : (moves : List (Option MoveBits)) (o : Object) (s : State) → MadePlain (fired_part moves o s)
unfolding fired_by
fired_plain moves o (Player p) = by_choice (is_firing p (move_of moves p.client)) _ (record { owner = refl; number = refl; holder = refl; lives = λ _. refl })
fired_plain moves o (Disc d) = tt
fired_plain moves o (Mine m) = tt
fired_plain moves o (Drone d) = tt
fired_plain moves o (Flag f) = tt
fired_plain moves o (Clock c) = tt

made_plain : (moves : List (Option MoveBits)) (xs : List Object) → AllByRecursion IsPlain (filter_map (fired moves) xs)
made_plain moves [] = tt
made_plain moves (o ∷ xs) = before (fired moves o) (filter_map (fired moves) xs) (fired_plain moves o o.state) (made_plain moves xs)
  where
    before : (made : Option Object) (rest : List Object) → MadePlain made → AllByRecursion IsPlain rest → AllByRecursion IsPlain (cons_option made rest)
    before None rest h k = k
    before (Some d) rest h k = (h, k)

take_plain : (n : ℕ) (xs : List Object) → AllByRecursion IsPlain xs → AllByRecursion IsPlain (take n xs)
take_plain zero xs h = tt
take_plain (suc n) [] h = tt
take_plain (suc n) (x ∷ xs) h = (h.0, take_plain n xs h.1)

discs_plain : (os : List Object) (moves : List (Option MoveBits)) → AllByRecursion IsPlain (discs_made os moves)
unfolding discs_made
discs_plain os moves = take_plain (MAX_OBJECTS - length os) (filter_map (fired moves) os) (made_plain moves os)

plain_owners : (ds : List Object) → AllByRecursion IsPlain ds → HaveNoOwner (owners ds)
plain_owners [] h = tt
plain_owners (d ∷ ds) h = subst (λ (w : Option ℕ). HaveNoOwner (w ∷ owners ds)) (sym h.0.owner) (plain_owners ds h.1)

plain_numbers : (ds : List Object) (place : ℕ) → AllByRecursion IsPlain ds → NumbersFit place (numbers ds)
plain_numbers [] place h = tt
plain_numbers (d ∷ ds) place h = (subst (λ (n : Option ℕ). NumberFits place n) (sym h.0.number) tt, plain_numbers ds (suc place) h.1)

plain_lives : (ds : List Object) → AllByRecursion IsPlain ds → AllByRecursion LivesOn ds
plain_lives [] h = tt
plain_lives (d ∷ ds) h = (h.0.lives, plain_lives ds h.1)

-- ---- lists

owners_append : (clients least : ℕ) (xs ys : List (Option ℕ)) → OwnersRise clients least xs → HaveNoOwner ys → OwnersRise clients least (xs ++ ys)
owners_append clients least [] [] h k = tt
owners_append clients least [] (None ∷ ys) h k = k
owners_append clients least [] (Some c ∷ ys) h k = absurd k
owners_append clients least (Some c ∷ xs) ys h k = (h.0, h.1, owners_append clients (suc c) xs ys h.2 k)
owners_append clients least (None ∷ xs) ys h k = none_append xs ys h k
  where
    none_append : (ps qs : List (Option ℕ)) → HaveNoOwner ps → HaveNoOwner qs → HaveNoOwner (ps ++ qs)
    none_append [] qs p q = q
    none_append (None ∷ ps) qs p q = none_append ps qs p q
    none_append (Some c ∷ ps) qs p q = absurd p

numbers_append : (place : ℕ) (xs : List (Option ℕ)) (ds : List Object) → NumbersFit place xs → AllByRecursion IsPlain ds → NumbersFit place (xs ++ numbers ds)
numbers_append place [] ds h k = plain_numbers ds place k
numbers_append place (x ∷ xs) ds h k = (h.0, numbers_append (suc place) xs ds h.1 k)

lives_append : (xs ys : List Object) → AllByRecursion LivesOn xs → AllByRecursion LivesOn ys → AllByRecursion LivesOn (xs ++ ys)
lives_append [] ys h k = k
lives_append (x ∷ xs) ys h k = (h.0, lives_append xs ys h.1 k)

identities_append : (xs ys : List Object) → identities (xs ++ ys) ≡ identities xs ++ identities ys
identities_append [] ys = refl
identities_append (x ∷ xs) ys = ap (λ (is : List Identity). identity_of x ∷ is) (identities_append xs ys)

part_append : (f : Identity → Option ℕ) (xs ys : List Identity) → map f (xs ++ ys) ≡ map f xs ++ map f ys
part_append f [] ys = refl
part_append f (x ∷ xs) ys = ap (λ (is : List (Option ℕ)). f x ∷ is) (part_append f xs ys)

-- the identities of the world after the tick: those before it, and the discs'
part_next : (f : Identity → Option ℕ) (os : List Object) (moves : List (Option MoveBits)) (t : Moment) → map f (identities (objects_next os moves t)) ≡ map f (identities os) ++ map f (identities (discs_made os moves))
part_next f os moves t =
    ap (map f) (identities_append (map (object_next os moves t) os) (discs_made os moves))
    ∙ part_append f (identities (map (object_next os moves t) os)) (identities (discs_made os moves))
    ∙ ap (λ (is : List Identity). map f is ++ map f (identities (discs_made os moves))) (stay_themselves os moves t os)

-- ---- who holds a flag

or_stays : (b c d : Bool) → (c ≡ true → d ≡ true) → (b || c) ≡ true → (b || d) ≡ true
or_stays true c d f h = refl
or_stays false c d f h = f h

owner_stays : (client : ℕ) (xs ys : List (Option ℕ)) → list_any (is_owner client) xs ≡ true → list_any (is_owner client) (xs ++ ys) ≡ true
owner_stays client [] ys h = absurd (never h)
owner_stays client (x ∷ xs) ys h = or_stays (is_owner client x) (list_any (is_owner client) xs) (list_any (is_owner client) (xs ++ ys)) (owner_stays client xs ys) h

holder_stays : (holder : Option ℕ) (xs ys : List (Option ℕ)) → HolderPlays xs holder → HolderPlays (xs ++ ys) holder
holder_stays None xs ys h = tt
holder_stays (Some client) xs ys h = owner_stays client xs ys h

-- whoever takes a flag is a player
using_plays : (moves : List (Option MoveBits)) (s : State) (client : ℕ) → using_part moves s ≡ Some client → is_owner client (owner_in s) ≡ true
using_plays moves (Player p) client h = by (move_of moves p.client).act h
  where
    by : (b : Bool) → cond b (Some p.client) None ≡ Some client → (p.client == client) ≡ true
    by true e = let here : p.client ≡ client = cc in grind (arith, nat_tests)
    by false e = absurd (cc)
using_plays moves (Disc d) client h = absurd (cc)
using_plays moves (Mine m) client h = absurd (cc)
using_plays moves (Drone d) client h = absurd (cc)
using_plays moves (Flag f) client h = absurd (cc)
using_plays moves (Clock c) client h = absurd (cc)

taking_plays : (moves : List (Option MoveBits)) (o p : Object) (client : ℕ) → taking moves o p ≡ Some client → is_owner client (owner_in p.state) ≡ true
taking_plays moves o p client h = by (is_enemy_near FLAG_REACH o p) h
  where
    by : (b : Bool) → cond b (using_part moves p.state) None ≡ Some client → is_owner client (owner_in p.state) ≡ true
    by true e = using_plays moves p.state client e
    by false e = absurd (cc)

plays_before : (p : Object) (os : List Object) (holder : Option ℕ) → HolderPlays (owners os) holder → HolderPlays (owners (p ∷ os)) holder
plays_before p os None h = tt
plays_before p os (Some client) h = by (is_owner client (owner_in p.state)) h
  where
    by : (b : Bool) → list_any (is_owner client) (owners os) ≡ true → (b || list_any (is_owner client) (owners os)) ≡ true
    by true h = refl
    by false h = h

taker_plays : (os : List Object) (moves : List (Option MoveBits)) (o : Object) → HolderPlays (owners os) (taker os moves o)
taker_plays [] moves o = tt
taker_plays (p ∷ os) moves o = by (taking moves o p) refl (taker_plays os moves o)
  where
    by : (taken : Option ℕ) → taking moves o p ≡ taken → HolderPlays (owners os) (taker os moves o) → HolderPlays (owners (p ∷ os)) (option_or taken (taker os moves o))
    by None e h = plays_before p os (taker os moves o) h
    by (Some client) e h = ap (λ b. b || list_any (is_owner client) (owners os)) (taking_plays moves o p client e)

abbrev Holds : List (Option ℕ) → Object → Type 0
Holds ws o = HolderPlays ws (holder_in o.state)

carried_holds : (ws : List (Option ℕ)) (moves : List (Option MoveBits)) (o : Object) (client : ℕ) (p : Option Object) → Holds ws o → Holds ws (carried moves o client p)
carried_holds ws moves o client None h = tt
carried_holds ws moves o client (Some p) h = either (Holds ws) (not (is_standing p)) _ _ tt (either (Holds ws) (is_home p) _ _ tt h)

by_kind_holds : (os : List Object) (moves : List (Option MoveBits)) (t : Moment) (o : Object) (s : State) → o.state ≡ s → Holds (owners os) o → Holds (owners os) (by_kind os moves t o s)
unfolding player_next disc_next mine_next drone_next flag_next clock_next
by_kind_holds os moves t o (Player p) e h = either (Holds (owners os)) (nat_lt 0 p.hp) _ _ tt tt
by_kind_holds os moves t o (Disc d) e h =
    either (Holds (owners os)) (not o.alive) o _ h (either (Holds (owners os)) (is_hitting os o) _ _ h
    (either (Holds (owners os)) (nat_le MAX_AGE (aged d.age) || is_leaving o.place d) _ _ tt tt))
by_kind_holds os moves t o (Mine m) e h =
    either (Holds (owners os)) (not o.alive) o _ h (either (Holds (owners os)) (is_triggered os o) _ _ h tt)
by_kind_holds os moves t o (Drone d) e h = either (Holds (owners os)) (not o.alive) o _ h tt
by_kind_holds os moves t o (Flag f) e h = held f.holder
  where
    held : (holder : Option ℕ) → Holds (owners os) (flag_next os moves o holder)
    held None = taker_plays os moves o
    held (Some client) = carried_holds (owners os) moves o client (find (is_player client) os) h
by_kind_holds os moves t o (Clock c) e h = tt

all_hold : (os : List Object) (moves : List (Option MoveBits)) (t : Moment) (ws : List (Option ℕ)) (xs : List Object) → AllByRecursion (Holds (owners os)) xs → AllByRecursion (Holds (owners os ++ ws)) (map (object_next os moves t) xs)
all_hold os moves t ws [] h = tt
all_hold os moves t ws (o ∷ xs) h = (
  holder_stays _ (owners os) ws (by_kind_holds os moves t o o.state refl h.0),
  all_hold os moves t ws xs h.1,
)

plain_hold : (ws : List (Option ℕ)) (ds : List Object) → AllByRecursion IsPlain ds → AllByRecursion (Holds ws) ds
plain_hold ws [] h = tt
plain_hold ws (d ∷ ds) h = (subst (λ (w : Option ℕ). HolderPlays ws w) (sym h.0.holder) tt, plain_hold ws ds h.1)

hold_append : (ws : List (Option ℕ)) (xs ys : List Object) → AllByRecursion (Holds ws) xs → AllByRecursion (Holds ws) ys → AllByRecursion (Holds ws) (xs ++ ys)
hold_append ws [] ys h k = k
hold_append ws (x ∷ xs) ys h k = (h.0, hold_append ws xs ys h.1 k)

-- ---- the whole

pub peopled_next : (clients : ℕ) (os : List Object) (moves : List (Option MoveBits)) (t : Moment) → IsPeopled clients os → IsPeopled clients (objects_next os moves t)
peopled_next clients os moves t h =
    let ds = discs_made os moves in
    let plain : AllByRecursion IsPlain ds = discs_plain os moves in
    let owned : owners (objects_next os moves t) ≡ owners os ++ owners ds = part_next (λ i. i.owner) os moves t in
    let numbered : numbers (objects_next os moves t) ≡ numbers os ++ numbers ds = part_next (λ i. i.number) os moves t in
    record {
      owned = subst (λ (ws : List (Option ℕ)). OwnersRise clients 0 ws) (sym owned) (owners_append clients 0 (owners os) (owners ds) h.owned (plain_owners ds plain));
      numbered = subst (λ (ns : List (Option ℕ)). NumbersFit 0 ns) (sym numbered) (numbers_append 0 (numbers os) ds h.numbered plain);
      alive = lives_append (map (object_next os moves t) os) ds (all_live os moves t os h.alive) (plain_lives ds plain);
      held = subst (λ (ws : List (Option ℕ)). AllByRecursion (Holds ws) (objects_next os moves t)) (sym owned)
          (hold_append (owners os ++ owners ds) (map (object_next os moves t) os) ds (all_hold os moves t (owners ds) os h.held) (plain_hold (owners os ++ owners ds) ds plain));
    }

-- ---- the start

start_owner : (number kind : ℕ) (owner : Option ℕ) → owner_in (state_at_first number kind owner) ≡ owner
start_owner number kind (Some client) = refl
start_owner number kind None = by (nat_eq kind MINE) (nat_eq kind DRONE) (nat_eq kind FLAG)
  where
    by : (mine drone flag : Bool) → owner_in (cond mine (Mine (record { armed = false; age = 0 })) (cond drone (Drone (record { number = number; hp = 100 })) (cond flag (Flag (record { holder = None })) (Clock (record { tick = 0; red = 0; blue = 0 }))))) ≡ None
    by true drone flag = refl
    by false true flag = refl
    by false false true = refl
    by false false false = refl

start_number : (number kind : ℕ) (owner : Option ℕ) → NumberFits number (number_in (state_at_first number kind owner))
start_number number kind (Some client) = tt
start_number number kind None = by (nat_eq kind MINE) (nat_eq kind DRONE) (nat_eq kind FLAG)
  where
    by : (mine drone flag : Bool) → NumberFits number (number_in (cond mine (Mine (record { armed = false; age = 0 })) (cond drone (Drone (record { number = number; hp = 100 })) (cond flag (Flag (record { holder = None })) (Clock (record { tick = 0; red = 0; blue = 0 }))))))
    by true drone flag = tt
    by false true flag = refl
    by false false true = tt
    by false false false = tt

start_holder : (number kind : ℕ) (owner : Option ℕ) → holder_in (state_at_first number kind owner) ≡ None
start_holder number kind (Some client) = refl
start_holder number kind None = by (nat_eq kind MINE) (nat_eq kind DRONE) (nat_eq kind FLAG)
  where
    by : (mine drone flag : Bool) → holder_in (cond mine (Mine (record { armed = false; age = 0 })) (cond drone (Drone (record { number = number; hp = 100 })) (cond flag (Flag (record { holder = None })) (Clock (record { tick = 0; red = 0; blue = 0 }))))) ≡ None
    by true drone flag = refl
    by false true flag = refl
    by false false true = refl
    by false false false = refl

start_owners : (number : ℕ) (spawns : List Spawn) → owners (first_objects number spawns) ≡ map (λ s. s.owner) spawns
start_owners number [] = refl
start_owners number (s ∷ spawns) =
    ap (λ (w : Option ℕ). w ∷ owners (first_objects (suc number) spawns)) (start_owner number s.kind s.owner)
    ∙ ap (λ (ws : List (Option ℕ)). s.owner ∷ ws) (start_owners (suc number) spawns)

start_numbers : (number : ℕ) (spawns : List Spawn) → NumbersFit number (numbers (first_objects number spawns))
start_numbers number [] = tt
start_numbers number (s ∷ spawns) = (start_number number s.kind s.owner, start_numbers (suc number) spawns)

start_lives : (number : ℕ) (spawns : List Spawn) → AllByRecursion LivesOn (first_objects number spawns)
start_lives number [] = tt
start_lives number (s ∷ spawns) = ((λ _. refl), start_lives (suc number) spawns)

start_holds : (ws : List (Option ℕ)) (number : ℕ) (spawns : List Spawn) → AllByRecursion (Holds ws) (first_objects number spawns)
start_holds ws number [] = tt
start_holds ws number (s ∷ spawns) = (subst (λ (w : Option ℕ). HolderPlays ws w) (sym (start_holder number s.kind s.owner)) tt, start_holds ws (suc number) spawns)

pub peopled_first : (clients : ℕ) (spawns : List Spawn) → OwnersRise clients 0 (map (λ s. s.owner) spawns) → IsPeopled clients (first_objects 0 spawns)
peopled_first clients spawns rise = record {
  owned = subst (λ (ws : List (Option ℕ)). OwnersRise clients 0 ws) (sym (start_owners 0 spawns)) rise;
  numbered = start_numbers 0 spawns;
  alive = start_lives 0 spawns;
  held = start_holds (owners (first_objects 0 spawns)) 0 spawns;
}

-- ---- whose player stands where

pub player_by_owner : (client : ℕ) (s : State) → is_player_part client s ≡ is_owner client (owner_in s)
player_by_owner client (Player p) = refl
player_by_owner client (Disc d) = refl
player_by_owner client (Mine m) = refl
player_by_owner client (Drone d) = refl
player_by_owner client (Flag f) = refl
player_by_owner client (Clock c) = refl

pub same_player : (client : ℕ) (os : List Object) (moves : List (Option MoveBits)) (t : Moment) (o : Object) → is_player client (object_next os moves t o) ≡ is_player client o
same_player client os moves t o =
    player_by_owner client (object_next os moves t o).state
    ∙ ap (λ (i : Identity). is_owner client i.owner) (stays_itself os moves t o)
    ∙ sym (player_by_owner client o.state)

no_player : (client i : ℕ) (ds : List Object) → AllByRecursion IsPlain ds → position_from (is_player client) i ds ≡ None
no_player client i [] h = refl
no_player client i (d ∷ ds) h =
    let none : is_player client d ≡ false = player_by_owner client d.state ∙ ap (is_owner client) h.0.owner in
    rw none (no_player client (i + 1) ds h.1)

players_from : (client i : ℕ) (os : List Object) (moves : List (Option MoveBits)) (t : Moment) (xs ds : List Object) → AllByRecursion IsPlain ds → position_from (is_player client) i (map (object_next os moves t) xs ++ ds) ≡ position_from (is_player client) i xs
players_from client i os moves t [] ds h = no_player client i ds h
players_from client i os moves t (o ∷ xs) ds h =
    rw (same_player client os moves t o, players_from client (i + 1) os moves t xs ds h) refl

pub player_stays : (client : ℕ) (os : List Object) (moves : List (Option MoveBits)) (t : Moment) → position_from (is_player client) 0 (objects_next os moves t) ≡ position_from (is_player client) 0 os
player_stays client os moves t = players_from client 0 os moves t os (discs_made os moves) (discs_plain os moves)
