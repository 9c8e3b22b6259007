-- One object's tick by what was found, and the ticks of all objects one after the other, in place.
use Rattle.std.proofs.Common.{◌≡◌, ℕ, zero, suc, ◌+◌, ◌<◌, ◌/◌, Bool, true, false, not, cond, ◌&&◌, ◌||◌, nat_le, nat_lt, nat_eq, min, List, [], ◌∷◌, ◌++◌, length, filter, map, take, drop, get_or, set, Option, Some, None, refl, sym, ap, ◌∙◌, arith, add-one, inl, inr}
use Rattle.std.specs.Prelude.{find, ℤ, pos, ◌-◌}
use Rattle.std.specs.Option.{option_or}
use Rattle.std.proofs.lemmas.List.{length-take}
use Rattle.std.proofs.lemmas.Bool.{and_parts}
use Rattle.std.proofs.lemmas.Bool.Decides.{eqb_tells}
use Rattle.tn_types.specs.declared.moves.Move.{Move}
use Rattle.tn_types.specs.declared.moves.MoveBits.{MoveBits}
use Rattle.world_rules.specs.declared.object.Object.{Object}
use Rattle.world_rules.specs.declared.object.State.{State}
use Rattle.world_rules.specs.declared.object.State.TheVariants.{Player, Disc, Mine, Drone, Flag, Clock}
use Rattle.world_rules.specs.declared.object.Player.{Player as PlayerPart}
use Rattle.world_rules.specs.declared.object.Mine.{Mine as MinePart}
use Rattle.world_rules.specs.declared.object.Drone.{Drone as DronePart}
use Rattle.world_rules.specs.Moves.{move_of}
use Rattle.world_rules.specs.Near.{is_standing, is_standing_part, is_target}
use Rattle.world_rules.specs.Discs.{harm, hits, disc_next}
use Rattle.world_rules.specs.Mines.{mine_next, is_armed_part}
use Rattle.world_rules.specs.Players.{damage, player_next}
use Rattle.world_rules.specs.Drones.{drawn, drone_next}
use Rattle.world_rules.specs.Flags.{is_player, is_player_part, taker, taking, flag_next}
use Rattle.world_rules.specs.Next.{Moment, object_next, by_kind}
use Rattle.world_sim.specs.declared.found.Found.{Found}
use Rattle.world_sim.specs.Found.{AreFound, is_ending, is_players, is_players_part}
use Rattle.world_sim.specs.Turns.{is_quiet, is_quiet_part, stepped_to}
use Rattle.world_cells.specs.Lines.{GridParts}
use Rattle.world_cells.specs.Cells.{IsGrid, spot}
use Rattle.world_sim.specs.declared.rows.Row.{Row}
use Rattle.world_sim.specs.Rows.{values_of, row_versions, as_number}
use Rattle.world_sim.specs.RowsNext.{row_values, row_next, rows_updated, IsSoundRow}
use Rattle.world_sim.specs.declared.table.Beside.{Beside}
use Rattle.world_sim.specs.Keeping.{KeepsUp}
use Rattle.world_sim.proofs.RowFields.{row_stays, writes_nothing}
use Rattle.world_sim.proofs.RowLoops.{updated_at}
use Rattle.world_sim.proofs.Gathered.{filter_filter, filter_same, player_same, drone_same, mine_same}

-- ---- what is sought among all objects is sought among the players

standing_part : (s : State) → (is_players_part s && is_standing_part s) ≡ is_standing_part s
standing_part (Player p) = refl
standing_part (Disc d) = refl
standing_part (Mine m) = refl
standing_part (Drone d) = refl
standing_part (Flag f) = refl
standing_part (Clock c) = refl

pub standing_found : (os : List Object) (found : Found) → AreFound os found → found.standing.items ≡ filter is_standing found.players.items
standing_found os found a =
    let e = filter_filter is_players is_standing os ∙ filter_same (λ x. is_players x && is_standing x) is_standing os (λ x. standing_part x.state) in
    a.standing_are ∙ sym (ap (filter is_standing) a.players_are ∙ e)

nobody : (client : ℕ) (s : State) → is_players_part s ≡ false → is_player_part client s ≡ false
nobody client (Player p) e = absurd (cc)
nobody client (Disc d) e = refl
nobody client (Mine m) e = refl
nobody client (Drone d) e = refl
nobody client (Flag f) e = refl
nobody client (Clock c) e = refl

not_standing : (s : State) → is_players_part s ≡ false → is_standing_part s ≡ false
not_standing (Player p) e = absurd (cc)
not_standing (Disc d) e = refl
not_standing (Mine m) e = refl
not_standing (Drone d) e = refl
not_standing (Flag f) e = refl
not_standing (Clock c) e = refl

find_step : (v : Bool) (client : ℕ) (o : Object) (os : List Object) → is_players o ≡ v → find (is_player client) (filter is_players os) ≡ find (is_player client) os → find (is_player client) (cond v (o ∷ filter is_players os) (filter is_players os)) ≡ find (is_player client) (o ∷ os)
find_step true client o os e h = ap (λ (r : Option Object). cond (is_player client o) (Some o) r) h
find_step false client o os e h = h ∙ sym (ap (λ (b : Bool). cond b (Some o) (find (is_player client) os)) (nobody client o.state e))

find_players : (client : ℕ) (os : List Object) → find (is_player client) (filter is_players os) ≡ find (is_player client) os
find_players client [] = refl
find_players client (o ∷ os) = find_step (is_players o) client o os refl (find_players client os)

not_taking : (moves : List (Option MoveBits)) (o p : Object) → is_players p ≡ false → taking moves o p ≡ None
not_taking moves o p e = rw (not_standing p.state e) refl

taker_step : (v : Bool) (moves : List (Option MoveBits)) (o p : Object) (os : List Object) → is_players p ≡ v → taker (filter is_players os) moves o ≡ taker os moves o → taker (cond v (p ∷ filter is_players os) (filter is_players os)) moves o ≡ taker (p ∷ os) moves o
taker_step true moves o p os e h = ap (option_or (taking moves o p)) h
taker_step false moves o p os e h = h ∙ sym (ap (λ t. option_or t (taker os moves o)) (not_taking moves o p e))

taker_players : (os : List Object) (moves : List (Option MoveBits)) (o : Object) → taker (filter is_players os) moves o ≡ taker os moves o
taker_players [] moves o = refl
taker_players (p ∷ os) moves o = taker_step (is_players p) moves o p os refl (taker_players os moves o)

flag_same : (os players : List Object) (moves : List (Option MoveBits)) (o : Object) (holder : Option ℕ) → players ≡ filter is_players os → flag_next players moves o holder ≡ flag_next os moves o holder
unfolding flag_next
flag_same os players moves o None e = rw (e, taker_players os moves o) refl
flag_same os players moves o (Some client) e = rw (e, find_players client os) refl

-- ---- one object by its kind

pub player_turn : (os : List Object) (moves : List (Option MoveBits)) (t : Moment) (o : Object) (p : PlayerPart) (m : Move) (lost scored : ℕ) → o.state ≡ Player p → m ≡ move_of moves p.client → (is_target o ≡ true → lost ≡ damage os o) → scored ≡ hits os p.client → player_next lost scored o p m ≡ object_next os moves t o
player_turn os moves t o p m lost scored e move lose score =
    player_same lost (damage os o) scored o p m e lose
    ∙ ap (λ (s : ℕ). player_next (damage os o) s o p m) score
    ∙ ap (λ (x : Move). player_next (damage os o) (hits os p.client) o p x) move
    ∙ ap (by_kind os moves t o) (sym e)

pub drone_turn : (os : List Object) (moves : List (Option MoveBits)) (t : Moment) (o : Object) (d : DronePart) (r lost : ℕ) → o.state ≡ Drone d → r ≡ drawn t.seed d.number t.tick → (is_target o ≡ true → lost ≡ harm os o) → drone_next r lost o d ≡ object_next os moves t o
drone_turn os moves t o d r lost e chance lose =
    drone_same r lost (harm os o) o d e lose
    ∙ ap (λ (x : ℕ). drone_next x (harm os o) o d) chance
    ∙ ap (by_kind os moves t o) (sym e)

pub flag_turn : (os players : List Object) (moves : List (Option MoveBits)) (t : Moment) (o : Object) (holder : Option ℕ) → o.state ≡ Flag (record { holder = holder }) → players ≡ filter is_players os → flag_next players moves o holder ≡ object_next os moves t o
flag_turn os players moves t o holder e p = flag_same os players moves o holder p ∙ ap (by_kind os moves t o) (sym e)

pub by_state : (os : List Object) (moves : List (Option MoveBits)) (t : Moment) (o : Object) (s : State) → o.state ≡ s → by_kind os moves t o s ≡ object_next os moves t o
by_state os moves t o s e = ap (by_kind os moves t o) (sym e)

-- ---- what no tick changes

dead : (alive : Bool) → not alive ≡ true → alive ≡ false
dead false e = refl
dead true e = absurd (cc)

cond_dead : (alive : Bool) (o x : Object) → alive ≡ false → o ≡ cond (not alive) o x
cond_dead false o x e = refl
cond_dead true o x e = absurd (cc)

same_state : (o : Object) (s : State) → o.state ≡ s → o ≡ record o { state = s }
same_state o s e = ap (λ (x : State). record o { state = x }) e

abbrev mine_of : Bool → ℕ → MinePart
mine_of armed age = record { armed = armed; age = age }

old_mine : (m : MinePart) → m.armed ≡ true → m.age ≡ 20 → m ≡ mine_of (m.armed || nat_le 10 (min 20 (m.age + 1))) (min 20 (m.age + 1))
old_mine m a n =
    let here : mine_of m.armed m.age ≡ mine_of true 20 = ap (λ b. mine_of b m.age) a ∙ ap (mine_of true) n in
    let later : mine_of (m.armed || nat_le 10 (min 20 (m.age + 1))) (min 20 (m.age + 1)) ≡ mine_of true 20 = ap (λ b. mine_of (b || nat_le 10 (min 20 (m.age + 1))) (min 20 (m.age + 1))) a ∙ ap (λ (k : ℕ). mine_of true (min 20 (k + 1))) n in
    here ∙ sym later

alive_mine : (o : Object) (m : MinePart) (alive : Bool) → o.state ≡ Mine m → m.armed ≡ true → m.age ≡ 20 → o ≡ cond (not alive) o (record o { state = Mine (mine_of (m.armed || nat_le 10 (min 20 (m.age + 1))) (min 20 (m.age + 1))) })
alive_mine o m false e a n = refl
alive_mine o m true e a n = same_state o _ (e ∙ ap Mine (old_mine m a n))

quiet_mine : (o : Object) (m : MinePart) (ending : Bool) → o.state ≡ Mine m → (not o.alive || (not ending && (m.armed && nat_eq m.age 20))) ≡ true → o ≡ mine_next ending o m
unfolding mine_next
quiet_mine o m true e q = by_alive o.alive q
  where
    by_alive : (alive : Bool) → (not alive || (not true && (m.armed && nat_eq m.age 20))) ≡ true → o ≡ cond (not alive) o (record o { alive = false })
    by_alive false k = refl
    by_alive true k = absurd (cc)
quiet_mine o m false e q = by_alive o.alive q
  where
    by_alive : (alive : Bool) → (not alive || (not false && (m.armed && nat_eq m.age 20))) ≡ true → o ≡ cond (not alive) o (record o { state = Mine (mine_of (m.armed || nat_le 10 (min 20 (m.age + 1))) (min 20 (m.age + 1))) })
    by_alive false k = refl
    by_alive true k =
        let parts = and_parts m.armed (nat_eq m.age 20) k in
        alive_mine o m true e parts.0 (elim (eqb_tells m.age 20) [
          | inl w ↦ w.1
          | inr w ↦ absurd (let f = w.0 in let g = parts.1 in cc)
        ])

quiet_by : (os : List Object) (moves : List (Option MoveBits)) (t : Moment) (o : Object) (s : State) → o.state ≡ s → (ending : Bool) → is_quiet_part ending o.alive s ≡ true → ending ≡ is_ending os o → o ≡ by_kind os moves t o s
unfolding disc_next drone_next
quiet_by os moves t o (Player p) e ending q f = absurd (cc)
quiet_by os moves t o (Disc d) e ending q f = cond_dead o.alive o _ (dead o.alive q)
quiet_by os moves t o (Mine m) e ending q f = quiet_mine o m ending e q ∙ mine_same os o m ending e f
quiet_by os moves t o (Drone d) e ending q f = cond_dead o.alive o _ (dead o.alive q)
quiet_by os moves t o (Flag h) e ending q f = absurd (cc)
quiet_by os moves t o (Clock c) e ending q f = absurd (cc)

pub quiet_stays : (os : List Object) (moves : List (Option MoveBits)) (t : Moment) (o : Object) (ending : Bool) → is_quiet ending o ≡ true → ending ≡ is_ending os o → o ≡ object_next os moves t o
quiet_stays os moves t o ending q f = quiet_by os moves t o o.state refl ending q f

-- ---- one after the other

pub stepped_at : (n : ℕ) (f : Object → Object) (os : List Object) (d : Object) → n < length os → get_or (stepped_to n f os) n d ≡ get_or os n d
stepped_at n f [] d l = absurd (omega arith)
stepped_at zero f (o ∷ os) d l = refl
stepped_at (suc n) f (o ∷ os) d l = stepped_at n f os d (omega arith)

stepped_set : (n : ℕ) (f : Object → Object) (os : List Object) (d : Object) → n < length os → set (stepped_to n f os) n (f (get_or os n d)) ≡ stepped_to (suc n) f os
stepped_set n f [] d l = absurd (omega arith)
stepped_set zero f (o ∷ os) d l = refl
stepped_set (suc n) f (o ∷ os) d l = ap (λ (xs : List Object). f o ∷ xs) (stepped_set n f os d (omega arith))

pub stepped_length : (n : ℕ) (f : Object → Object) (os : List Object) → length (stepped_to n f os) ≡ length os
stepped_length zero f os = refl
stepped_length (suc n) f [] = refl
stepped_length (suc n) f (o ∷ os) = ap suc (stepped_length n f os)

pub stepped_all : (f : Object → Object) (os : List Object) → stepped_to (length os) f os ≡ map f os
stepped_all f [] = refl
stepped_all f (o ∷ os) = ap (λ (xs : List Object). f o ∷ xs) (stepped_all f os)

pub stepped_more : (n : ℕ) (f : Object → Object) (os now : List Object) (d x : Object) → now ≡ stepped_to n f os → n < length os → x ≡ f (get_or os n d) → set now n x ≡ stepped_to (n + 1) f os
stepped_more n f os now d x e l h = rw (e, h, add-one) (stepped_set n f os d l)

-- a list with another object at one place
pub split_set : (n : ℕ) (xs : List Object) (x : Object) → n < length xs → set xs n x ≡ take n xs ++ x ∷ drop (n + 1) xs
split_set n [] x l = absurd (omega arith)
split_set zero (y ∷ xs) x l = refl
split_set (suc n) (y ∷ xs) x l = let e : suc n + 1 ≡ suc (n + 1) = omega arith in rw e (ap (λ (ys : List Object). y ∷ ys) (split_set n xs x (omega arith)))

pub split_at : (n : ℕ) (xs : List Object) (d : Object) → n < length xs → xs ≡ take n xs ++ get_or xs n d ∷ drop (n + 1) xs
split_at n [] d l = absurd (omega arith)
split_at zero (y ∷ xs) d l = refl
split_at (suc n) (y ∷ xs) d l = let e : suc n + 1 ≡ suc (n + 1) = omega arith in rw e (ap (λ (ys : List Object). y ∷ ys) (split_at n xs d (omega arith)))

pub grid_turn : (cells next : GridParts) (xs : List Object) (n : ℕ) (was x : Object) → n < length xs → was ≡ get_or xs n was → IsGrid cells xs → ((before behind : List Object) → length before ≡ n → IsGrid cells (before ++ was ∷ behind) → IsGrid next (before ++ x ∷ behind)) → IsGrid next (set xs n x)
grid_turn cells next xs n was x l e g step =
    let many : length (take n xs) ≡ n = let t = length-take n xs in omega (arith, t) in
    let split : take n xs ++ was ∷ drop (n + 1) xs ≡ xs = ap (λ (o : Object). take n xs ++ o ∷ drop (n + 1) xs) e ∙ sym (split_at n xs was l) in
    rw (split_set n xs x l) (step (take n xs) (drop (n + 1) xs) many (rw split g))

-- ---- rows

pub same_values : {A B C : Type 0} (f : A → C) (g : B → C) (xs : List A) (ys : List B) (n : ℕ) (a : A) (b : B) → map f xs ≡ map g ys → n < length xs → f (get_or xs n a) ≡ g (get_or ys n b)
same_values f g [] ys n a b e l = absurd (omega arith)
same_values f g (x ∷ xs) [] n a b e l = absurd (cc)
same_values f g (x ∷ xs) (y ∷ ys) zero a b e l = cc
same_values f g (x ∷ xs) (y ∷ ys) (suc n) a b e l = let t : map f xs ≡ map g ys = cc in same_values f g xs ys n a b t (omega arith)

-- the row of an object that has not had its turn is that of the object before the tick
pub row_of_old : (n : ℕ) (f : Object → Object) (os objects : List Object) (rows now : List Row) (r : Row) (o : Object) → map row_values rows ≡ map values_of os → n < length os → n < length rows → objects ≡ stepped_to n f os → now ≡ rows_updated n rows (map f os) → row_values (get_or now n r) ≡ values_of (get_or objects n o)
row_of_old n f os objects rows now r o e l m is was =
    let a : get_or now n r ≡ get_or rows n r = ap (λ (xs : List Row). get_or xs n r) was ∙ updated_at n rows (map f os) r m in
    let b : get_or objects n o ≡ get_or os n o = ap (λ (xs : List Object). get_or xs n o) is ∙ stepped_at n f os o l in
    ap row_values a ∙ same_values row_values values_of rows os n r o e m ∙ sym (ap values_of b)

-- ---- a drone in place

pub three_of_drone : (o : Object) (d : DronePart) (xs : List ℤ) → xs ≡ values_of o → o.state ≡ Drone d → length xs ≡ 3
three_of_drone o d xs e f = rw (e, f) refl

pub values_of_drone : (r lost : ℕ) (o : Object) (d : DronePart) → o.alive ≡ true → values_of (drone_next r lost o d) ≡ pos (drone_next r lost o d).place.x ∷ pos (drone_next r lost o d).place.y ∷ pos (d.hp - lost) ∷ []
unfolding drone_next
values_of_drone r lost o d e = rw e refl

abbrev row_of : List ℤ → List ℕ → Row
row_of xs vs = record { values = record { items = xs }; versions = record { items = vs } }

pub drone_told : (r lost hp : ℕ) (o now : Object) (d : DronePart) → o.alive ≡ true → now ≡ drone_next r lost o d → hp ≡ d.hp - lost → values_of now ≡ pos now.place.x ∷ pos now.place.y ∷ pos hp ∷ []
drone_told r lost hp o now d a e h = rw (e, h) (values_of_drone r lost o d a)

-- the row with these values is that of the object that has them
pub row_told : (row next : Row) (now : Object) (told : List ℤ) → values_of now ≡ told → next.values.items ≡ told → next.versions.items ≡ row_versions row.values.items told row.versions.items → next ≡ row_next row now
row_told row next now told e f g =
    let values : next.values.items ≡ values_of now = f ∙ sym e in
    let versions : next.versions.items ≡ row_versions row.values.items (values_of now) row.versions.items = g ∙ ap (λ (xs : List ℤ). row_versions row.values.items xs row.versions.items) (sym e) in
    let a : next ≡ row_of (values_of now) next.versions.items = ap (λ (xs : List ℤ). row_of xs next.versions.items) values in
    a ∙ ap (row_of (values_of now)) versions

pub drift_told : (r : ℕ) (o now : Object) (d : DronePart) (xs : List ℤ) → o.alive ≡ true → o.state ≡ Drone d → now ≡ drone_next r 0 o d → xs ≡ values_of o → values_of now ≡ pos now.place.x ∷ pos now.place.y ∷ get_or xs 2 (pos 0) ∷ []
drift_told r o now d xs a s e v =
    let less : d.hp - 0 ≡ d.hp = omega arith in
    let hp : get_or xs 2 (pos 0) ≡ pos (d.hp - 0) = rw (v, s, less) refl in
    rw hp (drone_told r 0 (d.hp - 0) o now d a e refl)

-- a drone that stays in its cell
pub drift_spot : (r : ℕ) (o now : Object) (d : DronePart) → o.alive ≡ true → o.state ≡ Drone d → 0 < d.hp → now ≡ drone_next r 0 o d → o.place.x / 4096 ≡ now.place.x / 4096 → o.place.y / 4096 ≡ now.place.y / 4096 → spot o ≡ spot now
unfolding drone_next
drift_spot r o now d a s l e cx cy =
    let alive : nat_lt 0 d.hp ≡ true = grind (arith, l) in
    rw (cx, cy, e, a, s, alive) refl

pub dead_drone : (o : Object) (d : DronePart) (ending : Bool) → o.state ≡ Drone d → o.alive ≡ false → is_quiet ending o ≡ true
dead_drone o d ending e f = rw (e, f) refl

-- ---- a mine in place

pub three_of_mine : (o : Object) (m : MinePart) (xs : List ℤ) → xs ≡ values_of o → o.state ≡ Mine m → length xs ≡ 3
three_of_mine o m xs e f = rw (e, f) refl

abbrev mine_values : Object → List ℤ
mine_values o = pos o.place.x ∷ pos o.place.y ∷ pos (as_number (is_armed_part o.state)) ∷ []

still_a_mine : (alive ending : Bool) (o : Object) (m : MinePart) → o.state ≡ Mine m → values_of (cond (not alive) o (cond ending (record o { alive = false }) (record o { state = Mine (mine_of (m.armed || nat_le 10 (min 20 (m.age + 1))) (min 20 (m.age + 1))) }))) ≡ mine_values (cond (not alive) o (cond ending (record o { alive = false }) (record o { state = Mine (mine_of (m.armed || nat_le 10 (min 20 (m.age + 1))) (min 20 (m.age + 1))) })))
still_a_mine false ending o m e = rw e refl
still_a_mine true true o m e = rw e refl
still_a_mine true false o m e = refl

values_of_mine : (ending : Bool) (o : Object) (m : MinePart) → o.state ≡ Mine m → values_of (mine_next ending o m) ≡ mine_values (mine_next ending o m)
unfolding mine_next
values_of_mine ending o m e = still_a_mine o.alive ending o m e

pub mine_told : (ending : Bool) (o now : Object) (m : MinePart) (armed : ℕ) → o.state ≡ Mine m → now ≡ mine_next ending o m → armed ≡ as_number (is_armed_part now.state) → values_of now ≡ pos now.place.x ∷ pos now.place.y ∷ pos armed ∷ []
mine_told ending o now m armed e f h = rw (h, f) (values_of_mine ending o m e)

pub mine_turn : (os : List Object) (moves : List (Option MoveBits)) (t : Moment) (o : Object) (m : MinePart) (ending : Bool) → o.state ≡ Mine m → ending ≡ is_ending os o → mine_next ending o m ≡ object_next os moves t o
mine_turn os moves t o m ending e f = mine_same os o m ending e f ∙ by_state os moves t o _ e

-- an object that stays as it is keeps all up
pub stays_kept : (number : ℕ) (o : Object) (row : Row) (beside : Beside) → row.values.items ≡ values_of o → IsSoundRow row → KeepsUp number o o row row beside beside
stays_kept number o row beside values sound = record {
  row_is = row_stays row o (sym values) sound.1;
  written = writes_nothing beside.writes.items number row.values.items _ row.versions.items values;
  grid = λ first behind many grid. grid;
  placed = λ first behind many fits placed. placed;
  few = omega arith;
  kept = omega arith;
}
