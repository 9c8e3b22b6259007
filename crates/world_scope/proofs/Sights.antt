-- What a client sees is always seen or lies round its player.
use Rattle.std.proofs.Common.{◌≡◌, ℕ, zero, suc, ◌+◌, ◌-◌, ◌*◌, ◌/◌, ◌≤◌, ◌<◌, ◌⊎◌, inl, inr, Bool, true, false, cond, ◌&&◌, ◌||◌, nat_le, nat_lt, not, List, [], ◌∷◌, refl, sym, ap, ◌∙◌, arith, Option, Some, None, count_by}
use Rattle.std.specs.Prelude.{slice_get, find}
use Rattle.std.specs.Int.{abs_diff}
use Rattle.std.specs.List.{filter_map, enumerate_from}
use Rattle.std.proofs.Math.Bool.{and-false}
use Rattle.std.proofs.lemmas.Nat.{div_below}
use Rattle.std.proofs.lemmas.Bool.{and_parts, leb-true, le-leb}
use Rattle.std.proofs.lemmas.Bool.Decides.{nat_tests, eqb_tells}
use Rattle.world_rules.specs.declared.object.Object.{Object}
use Rattle.world_rules.specs.declared.object.Place.{Place}
use Rattle.world_rules.specs.declared.object.State.{State}
use Rattle.world_rules.specs.declared.object.State.TheVariants.{Player, Disc, Mine, Drone, Flag, Clock}
use Rattle.world_rules.specs.Flags.{is_player, is_player_part}
use Rattle.world_rules.specs.Identity.{owner_in, owners, OwnersRise, HaveNoOwner, IsPeopled}
use Rattle.world_cells.specs.Grid.{has_place, is_always, lasts}
use Rattle.world_places.specs.Places.{is_special, is_special_part}
use Rattle.world_sim.specs.Worlds.{Worlds}
use Rattle.world_scope.specs.declared.viewer.Seen.{Seen}
use Rattle.world_scope.specs.declared.viewer.Viewer.{Viewer}
use Rattle.world_scope.specs.Views.{IsReady}
use Rattle.world_scope.specs.Sight.{distance, is_hidden}
use Rattle.world_scope.specs.Scope.{Look, look_of, is_visible, player_sees, quarter, seen, visible_list}
use Rattle.world_scope.specs.Square.{is_touched, is_round, many_round, most_looks}
use Rattle.world_scope.specs.Candidates.{HasOnePlayer, either, is_near, may_see}
use Rattle.world_scope.proofs.Numbers.{one, count_cons}

-- ---- the client's player is the only one of its client

owner_of : (client : ℕ) (s : State) → is_player_part client s ≡ true → owner_in s ≡ Some client
owner_of client (Player p) e = elim (eqb_tells p.client client) [
  | inl w ↦ ap Some w.1
  | inr w ↦ absurd (let h = w.0 in cc)
]
owner_of client (Disc d) e = absurd (cc)
owner_of client (Mine m) e = absurd (cc)
owner_of client (Drone d) e = absurd (cc)
owner_of client (Flag f) e = absurd (cc)
owner_of client (Clock c) e = absurd (cc)

differ : (client : ℕ) → None ≡ Some client → ⊥
differ client e = absurd (cc)

none_parts : (w : Option ℕ) (ws : List (Option ℕ)) → HaveNoOwner (w ∷ ws) → (w ≡ None) × HaveNoOwner ws
none_parts None ws h = (refl, h)
none_parts (Some c) ws h = absurd h

none_owns : (os : List Object) (n : ℕ) (o : Object) → HaveNoOwner (owners os) → slice_get os n ≡ Some o → owner_in o.state ≡ None
none_owns [] n o h e = absurd (cc)
none_owns (x ∷ os) zero o h e = let same : x ≡ o = cc in rw (sym same) (none_parts (owner_in x.state) (owners os) h).0
none_owns (x ∷ os) (suc n) o h e = none_owns os n o (none_parts (owner_in x.state) (owners os) h).1 e

owned_by : (clients least : ℕ) (x : Object) (w : Option ℕ) (os : List Object) (n : ℕ) (o : Object) (client : ℕ) → ((c m : ℕ) → OwnersRise clients (suc c) (owners os) → slice_get os m ≡ Some o → suc c ≤ client) → owner_in x.state ≡ w → OwnersRise clients least (w ∷ owners os) → slice_get (x ∷ os) n ≡ Some o → owner_in o.state ≡ Some client → least ≤ client
owned_by clients least x None os zero o client later f r e h =
    let same : x ≡ o = cc in
    absurd (differ client (sym f ∙ ap (λ (y : Object). owner_in y.state) same ∙ h))
owned_by clients least x None os (suc n) o client later f r e h = absurd (differ client (sym (none_owns os n o r e) ∙ h))
owned_by clients least x (Some c) os zero o client later f r e h =
    let same : x ≡ o = cc in
    let k : Some c ≡ Some client = sym f ∙ ap (λ (y : Object). owner_in y.state) same ∙ h in
    let i : c ≡ client = cc in
    omega (arith, i, r.0)
owned_by clients least x (Some c) os (suc n) o client later f r e h = omega (arith, later c n r.2 e, r.0)

owned_from : (clients least : ℕ) (os : List Object) (n : ℕ) (o : Object) (client : ℕ) → OwnersRise clients least (owners os) → slice_get os n ≡ Some o → owner_in o.state ≡ Some client → least ≤ client
owned_from clients least [] n o client r e h = absurd (cc)
owned_from clients least (x ∷ os) n o client r e h =
    owned_by clients least x (owner_in x.state) os n o client (λ c m s at. owned_from clients (suc c) os m o client s at h) refl r e h

first_by : (clients least : ℕ) (x : Object) (w : Option ℕ) (b : Bool) (os : List Object) (n : ℕ) (o : Object) (client : ℕ) → ((c : ℕ) → OwnersRise clients (suc c) (owners os) → find (is_player client) os ≡ Some o) → owner_in x.state ≡ w → is_player client x ≡ b → OwnersRise clients least (w ∷ owners os) → slice_get os n ≡ Some o → is_player client o ≡ true → cond b (Some x) (find (is_player client) os) ≡ Some o
first_by clients least x None true os n o client later f g r e h = absurd (differ client (sym f ∙ owner_of client x.state g))
first_by clients least x (Some c) true os n o client later f g r e h =
    let k : Some c ≡ Some client = sym f ∙ owner_of client x.state g in
    let i : c ≡ client = cc in
    absurd (omega (arith, i, owned_from clients (suc c) os n o client r.2 e (owner_of client o.state h)))
first_by clients least x None false os n o client later f g r e h = absurd (differ client (sym (none_owns os n o r e) ∙ owner_of client o.state h))
first_by clients least x (Some c) false os n o client later f g r e h = later c r.2

first_found : (clients least : ℕ) (os : List Object) (n : ℕ) (o : Object) (client : ℕ) → OwnersRise clients least (owners os) → slice_get os n ≡ Some o → is_player client o ≡ true → find (is_player client) os ≡ Some o
first_found clients least [] n o client r e h = absurd (cc)
first_found clients least (x ∷ os) zero o client r e h =
    let same : x ≡ o = cc in
    let t : is_player client x ≡ true = ap (is_player client) same ∙ h in
    rw t (ap Some same)
first_found clients least (x ∷ os) (suc n) o client r e h =
    first_by clients least x (owner_in x.state) (is_player client x) os n o client (λ c s. first_found clients (suc c) os n o client s e h) refl refl r e h

-- ---- what is seen lies round the player

touched : (radius at x : ℕ) → abs_diff at x ≤ radius → is_touched radius at x ≡ true
touched radius at x h =
    let a : (at - radius) / 4096 ≤ x / 4096 = omega (arith, h) in
    let b : x / 4096 ≤ (at + radius) / 4096 = omega (arith, h) in
    rw (le-leb ((at - radius) / 4096) (x / 4096) a, le-leb (x / 4096) ((at + radius) / 4096) b) refl

round : (radius : ℕ) (p o : Object) → o.alive ≡ true → has_place o.state ≡ true → distance p.place o.place ≤ radius → is_round radius p.place o ≡ true
round radius p o alive placed h =
    let x : abs_diff p.place.x o.place.x ≤ radius = omega (arith, h) in
    let y : abs_diff p.place.y o.place.y ≤ radius = omega (arith, h) in
    rw (alive, placed, touched radius p.place.y o.place.y y, touched radius p.place.x o.place.x x) refl

placed_by : (o : Object) (s : State) → o.state ≡ s → is_always o ≡ false → has_place s ≡ true
placed_by o (Player p) e h = refl
placed_by o (Disc d) e h = refl
placed_by o (Mine m) e h = refl
placed_by o (Drone d) e h = refl
placed_by o (Flag f) e h = refl
placed_by o (Clock c) e h = absurd (let t : true ≡ false = rw e at h in cc)

which : (a b c : Bool) → (a || b || c) ≡ true → b ≡ false → (a ≡ true) ⊎ (c ≡ true)
which true b c e f = inl refl
which false false c e f = inr e
which false true c e f = absurd (cc)

sees_round : (radius : ℕ) (player : Option Object) (o : Object) → o.alive ≡ true → has_place o.state ≡ true → player_sees radius player o ≡ true → is_near radius player o ≡ true
sees_round radius None o alive placed e = absurd (cc)
sees_round radius (Some p) o alive placed e =
    round radius p o alive placed (leb-true (distance p.place o.place) radius (and_parts _ (nat_le (distance p.place o.place) radius) e).1)

pub one_found : (clients : ℕ) (os : List Object) (client : ℕ) → IsPeopled clients os → (n : ℕ) (o : Object) → slice_get os n ≡ Some o → is_player client o ≡ true → find (is_player client) os ≡ Some o
one_found clients os client people n o at h = first_found clients 0 os n o client people.owned at h

pub has_one : (clients : ℕ) (w : Worlds) (client : ℕ) → IsPeopled clients w.objects → HasOnePlayer (look_of w client) w.objects
has_one clients w client people = one_found clients w.objects client people

near_by : (v : Look) (os : List Object) (n : ℕ) (o : Object) → HasOnePlayer v os → slice_get os n ≡ Some o → o.alive ≡ true → has_place o.state ≡ true → (is_player v.client o ≡ true) ⊎ (player_sees v.radius v.player o ≡ true) → is_near v.radius v.player o ≡ true
near_by v os n o owned at alive placed (inl h) =
    let here : distance o.place o.place ≤ v.radius = omega arith in
    rw (owned n o at h) (round v.radius o o alive placed here)
near_by v os n o owned at alive placed (inr h) = sees_round v.radius v.player o alive placed h

-- ---- so nobody else is seen

round_lives : (radius : ℕ) (player : Option Object) (o : Object) → is_near radius player o ≡ true → o.alive ≡ true
round_lives radius None o e = absurd (cc)
round_lives radius (Some p) o e = (and_parts o.alive _ e).0

lives_by : (radius : ℕ) (player : Option Object) (o : Object) (b : Bool) → lasts o ≡ b → (lasts o || is_near radius player o) ≡ true → o.alive ≡ true
lives_by radius player o true l e = (and_parts o.alive _ l).0
lives_by radius player o false l e = round_lives radius player o (rw l at e)

pub lives : (v : Look) (o : Object) → may_see v o ≡ true → o.alive ≡ true
lives v o e = lives_by v.radius v.player o (lasts o) refl e

or_right : (a b : Bool) → b ≡ true → (a || b) ≡ true
or_right true b e = refl
or_right false b e = e

seen_by : (v : Look) (os : List Object) (n : ℕ) (o : Object) (always : Bool) → HasOnePlayer v os → slice_get os n ≡ Some o → is_visible v o ≡ true → is_always o ≡ always → may_see v o ≡ true
seen_by v os n o true owned at e a =
    let alive = (and_parts o.alive _ e).0 in
    let lives : lasts o ≡ true = rw (alive, a) refl in
    ap (λ b. b || is_near v.radius v.player o) lives
seen_by v os n o false owned at e a =
    let parts = and_parts o.alive _ e in
    let by = which (is_player v.client o) (is_always o) (player_sees v.radius v.player o) parts.1 a in
    or_right (lasts o) (is_near v.radius v.player o) (near_by v os n o owned at parts.0 (placed_by o o.state refl a) by)

contradict : false ≡ true → ⊥
contradict e = absurd (cc)

unseen : (v : Look) (os : List Object) (n : ℕ) (o : Object) (visible : Bool) → HasOnePlayer v os → slice_get os n ≡ Some o → may_see v o ≡ false → is_visible v o ≡ visible → is_visible v o ≡ false
unseen v os n o true owned at e is = absurd (contradict (sym e ∙ seen_by v os n o (is_always o) owned at is refl))
unseen v os n o false owned at e is = is

pub nobody_else : (v : Look) (os : List Object) (n : ℕ) (o : Object) → HasOnePlayer v os → slice_get os n ≡ Some o → may_see v o ≡ false → is_visible v o ≡ false
nobody_else v os n o owned at e = unseen v os n o (is_visible v o) owned at e refl

-- ---- one object

-- an object as it is seen, by what is asked of it
abbrev made : ℕ → Bool → Bool → Bool → Bool → ℕ → Option Seen
made n alive own always sees level = cond (alive && (own || always || sees)) (Some (record { object = n; level = cond (own || always) 0 level })) None

made_always : (n : ℕ) (alive own always sees : Bool) (level : ℕ) → alive ≡ true → always ≡ true → made n alive own always sees level ≡ Some (record { object = n; level = 0 })
made_always n alive true always sees level a b = rw a refl
made_always n alive false always sees level a b = rw (a, b) refl

made_own : (n : ℕ) (alive own always sees : Bool) (level : ℕ) → alive ≡ true → own ≡ true → sees ≡ true → level ≡ 0 → made n alive own always sees level ≡ cond sees (Some (record { object = n; level = level })) None
made_own n alive own always sees level a b c d = rw (a, b, c, d) refl

made_other : (n : ℕ) (alive own always sees : Bool) (level : ℕ) → alive ≡ true → own ≡ false → always ≡ false → made n alive own always sees level ≡ cond sees (Some (record { object = n; level = level })) None
made_other n alive own always sees level a b c = rw (a, b, c) refl

pub always_seen : (v : Look) (n : ℕ) (o : Object) → o.alive ≡ true → is_always o ≡ true → seen v (n, o) ≡ Some (record { object = n; level = 0 })
always_seen v n o alive always = made_always n o.alive (is_player v.client o) (is_always o) (player_sees v.radius v.player o) (quarter v.radius v.player o) alive always

div_none : (n : ℕ) → 0 < n → 4 * 0 / n ≡ 0
div_none n l = let d = div_below 0 n 1 l (omega (arith, l)) in omega (arith, d)

-- a player isn't hidden
open_player : (client : ℕ) (o : Object) (s : State) → o.state ≡ s → is_player client o ≡ true → (team : ℕ) → is_hidden team o ≡ false
open_player client o (Player p) e own team = rw e refl
open_player client o (Disc d) e own team = rw e refl
open_player client o (Mine m) e own team = absurd (let h = rw e at own in cc)
open_player client o (Drone d) e own team = rw e refl
open_player client o (Flag f) e own team = rw e refl
open_player client o (Clock c) e own team = rw e refl

own_sees : (radius client : ℕ) (player : Option Object) (o : Object) → player ≡ Some o → is_player client o ≡ true → (player_sees radius player o ≡ true) × (quarter radius player o ≡ 0)
own_sees radius client player o e own =
    let away : distance o.place o.place ≡ 0 = omega arith in
    let near : nat_le (distance o.place o.place) radius ≡ true = grind (arith, nat_tests) in
    let level : 4 * distance o.place o.place / (radius + 1) ≡ 0 = rw away (div_none (radius + 1) (omega arith)) in
    rw e (rw (open_player client o o.state refl own o.team, near) refl, level)

player_by : (v : Look) (n : ℕ) (o : Object) (own : Bool) → o.alive ≡ true → is_always o ≡ false → (is_player v.client o ≡ true → v.player ≡ Some o) → is_player v.client o ≡ own → seen v (n, o) ≡ cond (player_sees v.radius v.player o) (Some (record { object = n; level = quarter v.radius v.player o })) None
player_by v n o true alive always owned own =
    let sees = own_sees v.radius v.client v.player o (owned own) own in
    made_own n o.alive (is_player v.client o) (is_always o) (player_sees v.radius v.player o) (quarter v.radius v.player o) alive own sees.0 sees.1
player_by v n o false alive always owned own =
    made_other n o.alive (is_player v.client o) (is_always o) (player_sees v.radius v.player o) (quarter v.radius v.player o) alive own always

pub player_seen : (v : Look) (n : ℕ) (o : Object) → o.alive ≡ true → is_always o ≡ false → (is_player v.client o ≡ true → v.player ≡ Some o) → seen v (n, o) ≡ cond (player_sees v.radius v.player o) (Some (record { object = n; level = quarter v.radius v.player o })) None
player_seen v n o alive always owned = player_by v n o (is_player v.client o) alive always owned refl

-- by the reach, which is 0 without a player
sees_by : (radius reach team : ℕ) (place : Place) (player : Option Object) (o : Object) → (player ≡ None → reach ≡ 0) → ((p : Object) → player ≡ Some p → place ≡ p.place) → ((p : Object) → player ≡ Some p → team ≡ p.team) → ((p : Object) → player ≡ Some p → reach ≡ radius + 1) → player_sees radius player o ≡ (not (is_hidden team o) && nat_lt (distance place o.place) reach)
sees_by radius reach team place None o alone at of far =
    let none : nat_lt (distance place o.place) reach ≡ false = let z = alone refl in grind (arith, nat_tests) in
    rw (none, and-false (not (is_hidden team o))) refl
sees_by radius reach team place (Some p) o alone at of far =
    let r : reach ≡ radius + 1 = far p refl in
    let d : nat_lt (distance p.place o.place) (radius + 1) ≡ nat_le (distance p.place o.place) radius = grind (arith, nat_tests) in
    rw (at p refl, of p refl, r, d) refl

level_by : (radius reach : ℕ) (place : Place) (player : Option Object) (o : Object) → (player ≡ None → reach ≡ 0) → ((p : Object) → player ≡ Some p → place ≡ p.place) → ((p : Object) → player ≡ Some p → reach ≡ radius + 1) → distance place o.place < reach → 4 * distance place o.place / reach ≡ quarter radius player o
level_by radius reach place None o alone at far l = let z = alone refl in absurd (omega (arith, z, l))
level_by radius reach place (Some p) o alone at far l = rw (at p refl, far p refl) refl

out_of_reach : (hidden : Bool) (away reach : ℕ) → reach ≤ away → (not hidden && nat_lt away reach) ≡ false
out_of_reach hidden away reach l = let t : nat_lt away reach ≡ false = grind (arith, nat_tests) in rw (t, and-false (not hidden)) refl

in_reach : (hidden : Bool) (away reach : ℕ) → hidden ≡ false → away < reach → (not hidden && nat_lt away reach) ≡ true
in_reach hidden away reach h l = let t : nat_lt away reach ≡ true = grind (arith, nat_tests) in rw (h, t) refl

abbrev pub seen_from : Viewer → ℕ → Object → Option Seen
seen_from v n o = cond (player_sees v.radius v.player o) (Some (record { object = n; level = quarter v.radius v.player o })) None

abbrev pub seen_at_level : ℕ → ℕ → Option Seen
seen_at_level n q = Some (record { object = n; level = q })

pub seen_none : (v : Viewer) (n : ℕ) (o : Object) → IsReady v → (is_hidden v.team o ≡ true) ⊎ (v.reach ≤ distance v.place o.place) → None ≡ seen_from v n o
seen_none v n o r (inl h) = rw (sees_by v.radius v.reach v.team v.place v.player o r.alone r.place r.team r.reach, h) refl
seen_none v n o r (inr l) = rw (sees_by v.radius v.reach v.team v.place v.player o r.alone r.place r.team r.reach, out_of_reach (is_hidden v.team o) (distance v.place o.place) v.reach l) refl

-- what isn't special is neither always seen nor hidden
plain_by : (o : Object) (s : State) → o.state ≡ s → is_special_part s ≡ false → (team : ℕ) → (is_always o ≡ false) × (is_hidden team o ≡ false)
plain_by o (Player p) e h team = rw e (refl, refl)
plain_by o (Disc d) e h team = rw e (refl, refl)
plain_by o (Mine m) e h team = rw (e, h) (refl, refl)
plain_by o (Drone d) e h team = rw e (refl, refl)
plain_by o (Flag f) e h team = absurd (cc)
plain_by o (Clock c) e h team = absurd (cc)

plain : (o : Object) (special : Bool) → (is_special o ≡ true → special ≡ true) → special ≡ false → is_special o ≡ false
plain o special h e = by_test (is_special o) refl
  where
    by_test : (b : Bool) → is_special o ≡ b → is_special o ≡ false
    by_test true t = absurd (contradict (sym e ∙ h t))
    by_test false t = t

pub plain_other : (o : Object) (special : Bool) → (is_special o ≡ true → special ≡ true) → special ≡ false → is_always o ≡ false
plain_other o special h e = (plain_by o o.state refl (plain o special h e) 0).0

pub plain_open : (o : Object) (special : Bool) (team : ℕ) → (is_special o ≡ true → special ≡ true) → special ≡ false → is_hidden team o ≡ false
plain_open o special team h e = (plain_by o o.state refl (plain o special h e) team).1

pub hidden_unseen : (v : Viewer) (n : ℕ) (o : Object) → IsReady v → is_hidden v.team o ≡ true → None ≡ seen_from v n o
hidden_unseen v n o r h = seen_none v n o r (inl h)

pub seen_some : (v : Viewer) (n q : ℕ) (o : Object) → IsReady v → is_hidden v.team o ≡ false → distance v.place o.place < v.reach → q ≡ 4 * distance v.place o.place / v.reach → seen_at_level n q ≡ seen_from v n o
seen_some v n q o r h l e =
    let level : q ≡ quarter v.radius v.player o = e ∙ level_by v.radius v.reach v.place v.player o r.alone r.place r.reach l in
    rw (sees_by v.radius v.reach v.team v.place v.player o r.alone r.place r.team r.reach, in_reach (is_hidden v.team o) (distance v.place o.place) v.reach h l, level) refl

-- ---- the whole list

pub look_is : (w : Worlds) (client radius : ℕ) (v : Look) (os : List Object) → v ≡ record { client = client; player = find (is_player client) os; radius = radius } → os ≡ w.objects → radius ≡ w.radius → v ≡ look_of w client
look_is w client radius v os e f g = e ∙ rw (f, g) refl

pub list_is : (w : Worlds) (client : ℕ) (v : Look) → v ≡ look_of w client → filter_map (seen v) (enumerate_from 0 w.objects) ≡ visible_list w client
unfolding visible_list
list_is w client v e = ap (λ (u : Look). filter_map (seen u) (enumerate_from 0 w.objects)) e

-- ---- looks

one_or : (a b : Bool) → one (a || b) ≤ one a + one b
one_or true b = omega arith
one_or false b = omega arith

either_few : (p q : Object → Bool) (os : List Object) → count_by (either p q) os ≤ count_by p os + count_by q os
either_few p q [] = omega arith
either_few p q (o ∷ os) =
    let h = either_few p q os in
    let a = count_cons (either p q) o os in
    let b = count_cons p o os in
    let c = count_cons q o os in
    let d = one_or (p o) (q o) in
    omega (arith, h, a, b, c, d)

none_near : (radius : ℕ) (os : List Object) → count_by (is_near radius None) os ≡ 0
none_near radius [] = refl
none_near radius (o ∷ os) = let a = count_cons (is_near radius None) o os in let b = none_near radius os in omega (arith, a, b)

near_many : (radius : ℕ) (player : Option Object) (os : List Object) → count_by (is_near radius player) os ≡ many_round radius player os
near_many radius None os = none_near radius os
near_many radius (Some player) os = refl

pub looks_few : (w : Worlds) (client : ℕ) (v : Look) (before now : ℕ) → v ≡ look_of w client → now ≤ before + count_by (may_see v) w.objects → now ≤ before + most_looks w client
looks_few w client v before now e h =
    let k = rw e at h in
    let a = either_few lasts (is_near w.radius (find (is_player client) w.objects)) w.objects in
    let b = near_many w.radius (find (is_player client) w.objects) w.objects in
    omega (arith, k, a, b)
