-- What a glance at an object tells of it, and glances at all objects.
use Rattle.std.proofs.Common.{◌≡◌, ℕ, zero, suc, ◌≤◌, ◌<◌, inl, inr, Bool, true, false, cond, not, nat_eq, nat_lt, ◌&&◌, List, [], ◌∷◌, length, map, take, filter, get_or, set, Option, Some, None, refl, sym, ap, ◌∙◌, arith}
use Rattle.std.specs.List.{list_any}
use Rattle.std.proofs.Math.Bool.{and-false}
use Rattle.std.proofs.lemmas.List.{length-map, get_or-map}
use Rattle.world_rules.specs.declared.object.Object.{Object}
use Rattle.world_rules.specs.declared.object.State.{State}
use Rattle.world_rules.specs.declared.object.State.TheVariants.{Player, Disc, Mine, Drone, Flag, Clock}
use Rattle.world_rules.specs.Near.{is_standing, is_standing_part}
use Rattle.world_rules.specs.Identity.{OwnersRise, HaveNoOwner, owners, owner_in}
use Rattle.world_sim.specs.declared.glance.Glance.{Glance}
use Rattle.world_rules.specs.declared.object.Drone.{Drone as DronePart}
use Rattle.world_rules.specs.Drones.{drone_next}
use Rattle.world_rules.specs.Near.{is_other_near}
use Rattle.world_rules.specs.Discs.{is_hitting}
use Rattle.world_rules.specs.Ranges.{PlaceFits}
use Rattle.world_sim.specs.declared.glance.Role.TheVariants.{YoungMine, ArmedMine, OldMine}
use Rattle.world_sim.specs.Searches.{plot_of, AreWatched}
use Rattle.world_sim.specs.Found.{is_players, is_players_part, is_flag, is_triggered_by, AreOthers, PlayersFirst, IsPlayersEnd}
use Rattle.world_sim.specs.Glances.{glance_of, may_matter, is_armed_role, is_found_role}
use Rattle.world_sim.proofs.Watching.{nobody_near}

-- ---- glances at all

pub as_many_glances : (os : List Object) (glances : List Glance) → glances ≡ map glance_of os → length glances ≡ length os
as_many_glances os glances e = ap (λ (gs : List Glance). length gs) e ∙ simp length-map

pub glance_at : (os : List Object) (glances : List Glance) (i : ℕ) (o : Object) (g : Glance) → glances ≡ map glance_of os → i < length os → o ≡ get_or os i o → g ≡ get_or glances i g → g ≡ glance_of o
glance_at os glances i o g e l f h = h ∙ ap (λ (gs : List Glance). get_or gs i g) e ∙ get_or-map glance_of os i o g l ∙ ap glance_of (sym f)

pub glance_is : (os : List Object) (glances : List Glance) (i : ℕ) (o : Object) (g : Glance) → glances ≡ map glance_of os → i < length os → get_or glances i g ≡ glance_of (get_or os i o)
glance_is os glances i o g e l = ap (λ (gs : List Glance). get_or gs i g) e ∙ get_or-map glance_of os i o g l

map_set : (os : List Object) (i : ℕ) (x : Object) → map glance_of (set os i x) ≡ set (map glance_of os) i (glance_of x)
map_set [] i x = refl
map_set (o ∷ os) zero x = refl
map_set (o ∷ os) (suc i) x = ap (λ (gs : List Glance). glance_of o ∷ gs) (map_set os i x)

pub set_glances : (os : List Object) (glances : List Glance) (i : ℕ) (x : Object) (g : Glance) → glances ≡ map glance_of os → g ≡ glance_of x → set glances i g ≡ map glance_of (set os i x)
set_glances os glances i x g e f = rw (e, f) (sym (map_set os i x))

-- ---- players first

no_player : (s : State) → owner_in s ≡ None → is_players_part s ≡ false
no_player (Player p) e = absurd (cc)
no_player (Disc d) e = refl
no_player (Mine m) e = refl
no_player (Drone d) e = refl
no_player (Flag f) e = refl
no_player (Clock c) e = refl

a_player : (s : State) (client : ℕ) → owner_in s ≡ Some client → is_players_part s ≡ true
a_player (Player p) client e = refl
a_player (Disc d) client e = absurd (cc)
a_player (Mine m) client e = absurd (cc)
a_player (Drone d) client e = absurd (cc)
a_player (Flag f) client e = absurd (cc)
a_player (Clock c) client e = absurd (cc)

others : (os : List Object) → HaveNoOwner (owners os) → AreOthers os
others [] h = tt
others (o ∷ os) h = by_owner (owner_in o.state) refl h (others os)
  where
    by_owner : (owner : Option ℕ) → owner_in o.state ≡ owner → HaveNoOwner (owner ∷ owners os) → (HaveNoOwner (owners os) → AreOthers os) → AreOthers (o ∷ os)
    by_owner None e k rest = (no_player o.state e, rest k)
    by_owner (Some client) e k rest = absurd k

pub players_first : (clients least : ℕ) (os : List Object) → OwnersRise clients least (owners os) → PlayersFirst os
players_first clients least [] h = tt
players_first clients least (o ∷ os) h = by_owner (owner_in o.state) refl h (λ client k. players_first clients (suc client) os k)
  where
    by_owner : (owner : Option ℕ) → owner_in o.state ≡ owner → OwnersRise clients least (owner ∷ owners os) → ((client : ℕ) → OwnersRise clients (suc client) (owners os) → PlayersFirst os) → PlayersFirst (o ∷ os)
    by_owner None e k rest = inr (no_player o.state e, others os k)
    by_owner (Some client) e k rest = inl (a_player o.state client e, rest client k.2)

not_standing : (s : State) → is_players_part s ≡ false → is_standing_part s ≡ false
not_standing (Player p) e = absurd (cc)
not_standing (Disc d) e = refl
not_standing (Mine m) e = refl
not_standing (Drone d) e = refl
not_standing (Flag f) e = refl
not_standing (Clock c) e = refl

-- none of the others passes
abbrev OfPlayers : (Object → Bool) → Type 0
OfPlayers p = (o : Object) → is_players o ≡ false → p o ≡ false

none_of : (p : Object → Bool) (os : List Object) → OfPlayers p → AreOthers os → filter p os ≡ []
none_of p [] h a = refl
none_of p (o ∷ os) h a = rw (h o a.0, none_of p os h a.1) refl

none_before : (p : Object → Bool) (n : ℕ) (os : List Object) → OfPlayers p → AreOthers os → filter p (take n os) ≡ []
none_before p zero os h a = refl
none_before p (suc n) [] h a = refl
none_before p (suc n) (o ∷ os) h a = rw (h o a.0, none_before p n os h a.1) refl

up_to_end : (p : Object → Bool) (n : ℕ) (os : List Object) → OfPlayers p → PlayersFirst os → IsPlayersEnd os n → filter p (take n os) ≡ filter p os
up_to_end p zero [] h first end = refl
up_to_end p (suc n) [] h first end = refl
up_to_end p zero (o ∷ os) h (inl one) end = absurd (let e = one.0 in cc)
up_to_end p zero (o ∷ os) h (inr none) end = sym (none_of p (o ∷ os) h none)
up_to_end p (suc n) (o ∷ os) h (inl one) end = ap (λ (xs : List Object). cond (p o) (o ∷ xs) xs) (up_to_end p n os h one.1 end)
up_to_end p (suc n) (o ∷ os) h (inr none) end = none_before p (suc n) (o ∷ os) h none ∙ sym (none_of p (o ∷ os) h none)

pub players_up_to : (os : List Object) (n : ℕ) → PlayersFirst os → IsPlayersEnd os n → filter is_players (take n os) ≡ filter is_players os
players_up_to os n first end = up_to_end is_players n os (λ o e. e) first end

pub standing_up_to : (os : List Object) (n : ℕ) → PlayersFirst os → IsPlayersEnd os n → filter is_standing (take n os) ≡ filter is_standing os
standing_up_to os n first end = up_to_end is_standing n os (λ o e. not_standing o.state e) first end

end_here : (os : List Object) (n : ℕ) → ((d : Object) → n < length os → is_players (get_or os n d) ≡ false) → IsPlayersEnd os n
end_here [] n h = tt
end_here (o ∷ os) zero h = h o (omega arith)
end_here (o ∷ os) (suc n) h = end_here os n (λ d l. h d (omega (arith, l)))

pub end_at : (os : List Object) (glances : List Glance) (n : ℕ) (g : Glance) (b : Bool) → glances ≡ map glance_of os → ((o : Object) → get_or glances n g ≡ glance_of o → b ≡ is_players o) → b ≡ false → IsPlayersEnd os n
end_at os glances n g b e told none = end_here os n (λ d l. sym (told (get_or os n d) (ap (λ (gs : List Glance). get_or gs n g) e ∙ get_or-map glance_of os n d g l)) ∙ none)

beyond_end : (os : List Object) (n : ℕ) → length os ≤ n → IsPlayersEnd os n
beyond_end [] n l = tt
beyond_end (o ∷ os) zero l = absurd (omega (arith, l))
beyond_end (o ∷ os) (suc n) l = beyond_end os n (omega (arith, l))

pub end_behind : (os : List Object) (glances : List Glance) (n : ℕ) → glances ≡ map glance_of os → length glances ≤ n → IsPlayersEnd os n
end_behind os glances n e l = beyond_end os n (omega (arith, l, as_many_glances os glances e))

-- ---- what matters

pub no_flag : (watched : List Bool) (o : Object) (s : State) → o.state ≡ s → may_matter watched o.place (glance_of o) ≡ false → is_flag o ≡ false
no_flag watched o (Player p) e m = rw e refl
no_flag watched o (Disc d) e m = rw e refl
no_flag watched o (Mine k) e m = rw e refl
no_flag watched o (Drone d) e m = rw e refl
no_flag watched o (Flag f) e m = absurd (let f = rw e at m in cc)
no_flag watched o (Clock k) e m = rw e refl

no_hit : (watched : List Bool) (os : List Object) (o : Object) (s : State) → o.state ≡ s → may_matter watched o.place (glance_of o) ≡ false → is_hitting os o ≡ false
unfolding is_hitting
no_hit watched os o (Player p) e m = rw (e, and-false o.alive) refl
no_hit watched os o (Disc d) e m = let dead : o.alive ≡ false = rw e at m in rw dead refl
no_hit watched os o (Mine k) e m = rw (e, and-false o.alive) refl
no_hit watched os o (Drone d) e m = rw (e, and-false o.alive) refl
no_hit watched os o (Flag f) e m = rw (e, and-false o.alive) refl
no_hit watched os o (Clock k) e m = rw (e, and-false o.alive) refl

by_armed : (alive armed old near watched : Bool) → cond (is_armed_role (cond (not armed) YoungMine (cond old OldMine ArmedMine))) watched (is_found_role alive (cond (not armed) YoungMine (cond old OldMine ArmedMine))) ≡ false → (watched ≡ false → near ≡ false) → ((alive && armed) && near) ≡ false
by_armed alive false old near watched m h = rw (and-false alive) refl
by_armed alive true false near watched m h = rw (h m, and-false (alive && true)) refl
by_armed alive true true near watched m h = rw (h m, and-false (alive && true)) refl

no_trigger : (watched : List Bool) (standing : List Object) (o : Object) (s : State) → o.state ≡ s → AreWatched standing watched → PlaceFits o.place → may_matter watched o.place (glance_of o) ≡ false → is_triggered_by standing o ≡ false
no_trigger watched standing o (Player p) e w fits m = rw (e, and-false o.alive) refl
no_trigger watched standing o (Disc d) e w fits m = rw (e, and-false o.alive) refl
no_trigger watched standing o (Mine k) e w fits m = rw e (by_armed o.alive k.armed (nat_eq k.age 20) (list_any (is_other_near 300 o) standing) (get_or watched (plot_of o.place) false) (rw e at m) (λ h. nobody_near standing watched o w fits h))
no_trigger watched standing o (Drone d) e w fits m = rw (e, and-false o.alive) refl
no_trigger watched standing o (Flag f) e w fits m = rw (e, and-false o.alive) refl
no_trigger watched standing o (Clock k) e w fits m = rw (e, and-false o.alive) refl

pub record MattersNot (os standing : List Object) (o : Object) : Type 0 where
  pub flag : is_flag o ≡ false
  pub hit : is_hitting os o ≡ false
  pub trigger : is_triggered_by standing o ≡ false

pub matters_not : (os standing : List Object) (watched : List Bool) (o : Object) (g : Glance) → AreWatched standing watched → PlaceFits o.place → g ≡ glance_of o → may_matter watched o.place g ≡ false → MattersNot os standing o
matters_not os standing watched o g w fits e m =
    let k : may_matter watched o.place (glance_of o) ≡ false = ap (may_matter watched o.place) (sym e) ∙ m in
    record {
      flag = no_flag watched o o.state refl k;
      hit = no_hit watched os o o.state refl k;
      trigger = no_trigger watched standing o o.state refl w fits k;
    }

-- ---- a drone's tick

pub drone_glance : (r lost : ℕ) (o now : Object) (g : Glance) (d : DronePart) → o.alive ≡ true → o.state ≡ Drone d → now ≡ drone_next r lost o d → g ≡ glance_of o → (let next : Glance = record { team = g.team; alive = now.alive; role = g.role } in next ≡ glance_of now)
unfolding drone_next
drone_glance r lost o now g d alive e f h = rw (f, h, alive, e) refl

pub drift_glance : (r : ℕ) (o now : Object) (d : DronePart) → o.alive ≡ true → o.state ≡ Drone d → 0 < d.hp → now ≡ drone_next r 0 o d → glance_of now ≡ glance_of o
unfolding drone_next
drift_glance r o now d alive e l f =
    let lives : nat_lt 0 d.hp ≡ true = grind (arith, l) in
    rw (f, alive, e, lives) refl
