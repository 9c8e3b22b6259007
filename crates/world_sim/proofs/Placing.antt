-- The places of all objects, as they are kept beside them.
use Rattle.std.proofs.Common.{◌≡◌, ℕ, zero, suc, ◌+◌, ◌<◌, Bool, true, false, not, cond, ◌||◌, nat_le, refl, List, [], ◌∷◌, ◌++◌, length, map, take, drop, get_or, set, sym, ap, ◌∙◌, arith}
use Rattle.std.proofs.lemmas.List.{take_more, length-take}
use Rattle.std.specs.List.{AllByRecursion}
use Rattle.tn_types.specs.declared.moves.MoveBits.{MoveBits}
use Rattle.std.specs.Prelude.{Option}
use Rattle.world_rules.specs.declared.object.Object.{Object}
use Rattle.world_rules.specs.declared.object.Drone.{Drone as DronePart}
use Rattle.world_rules.specs.declared.object.Mine.{Mine as MinePart}
use Rattle.world_rules.specs.declared.object.State.TheVariants.{Mine}
use Rattle.world_rules.specs.Mines.{mine_next, is_armed_part}
use Rattle.world_rules.specs.Discs.{aged}
use Rattle.world_rules.specs.declared.measures.TheConstants.{ARMING_AGE}
use Rattle.world_rules.specs.Drones.{drone_next}
use Rattle.world_rules.specs.Ranges.{PlaceFits, ObjectFits}
use Rattle.world_rules.specs.Next.{Moment, object_next, discs_made}
use Rattle.world_rules.proofs.Ranging.{objects_fit}
use Rattle.world_places.specs.Places.{PlaceLists, ArePlaced, is_special}
use Rattle.world_sim.proofs.Turns.{split_set, split_at}
use Rattle.world_sim.proofs.Watching.{place_fits}

-- ---- what fits

front_fits : (xs ys : List Object) → AllByRecursion ObjectFits (xs ++ ys) → AllByRecursion ObjectFits xs
front_fits [] ys a = tt
front_fits (x ∷ xs) ys a = (a.0, front_fits xs ys a.1)

pub behind_fits : (xs ys : List Object) → AllByRecursion ObjectFits (xs ++ ys) → AllByRecursion ObjectFits ys
behind_fits [] ys a = a
behind_fits (x ∷ xs) ys a = behind_fits xs ys a.1

pub fits_at : (os : List Object) (i : ℕ) (d : Object) → AllByRecursion ObjectFits os → i < length os → PlaceFits (get_or os i d).place
fits_at [] i d a l = absurd (omega arith)
fits_at (o ∷ os) zero d a l = a.0.place
fits_at (o ∷ os) (suc i) d a l = fits_at os i d a.1 (omega (arith, l))

-- all objects after the tick, and the discs that it makes
pub all_fit : (os was now made : List Object) (moves : List (Option MoveBits)) (t : Moment) → AllByRecursion ObjectFits os → was ≡ os → now ≡ map (object_next was moves t) was → made ≡ discs_made os moves → AllByRecursion ObjectFits (now ++ made)
all_fit os was now made moves t fits e f g = rw (g, f, e) (objects_fit os moves t fits)

-- an object after the tick stands in the field
pub next_place_fits : (os : List Object) (moves : List (Option MoveBits)) (t : Moment) (i : ℕ) (o : Object) → AllByRecursion ObjectFits os → i < length (map (object_next os moves t) os) → o ≡ get_or (map (object_next os moves t) os) i o → PlaceFits o.place
next_place_fits os moves t i o fits l e = place_fits (map (object_next os moves t) os) i o (front_fits (map (object_next os moves t) os) (discs_made os moves) (objects_fit os moves t fits)) l e

-- ---- one after the other

pub placed_turn : (places next : PlaceLists) (xs : List Object) (n : ℕ) (was x : Object) → n < length xs → was ≡ get_or xs n was → PlaceFits x.place → ArePlaced places xs → ((before behind : List Object) → length before ≡ n → PlaceFits x.place → ArePlaced places (before ++ was ∷ behind) → ArePlaced next (before ++ x ∷ behind)) → ArePlaced next (set xs n x)
placed_turn places next xs n was x l e fits placed step =
    let many : length (take n xs) ≡ n = let t = length-take n xs in omega (arith, t) in
    let split : take n xs ++ was ∷ drop (n + 1) xs ≡ xs = ap (λ (o : Object). take n xs ++ o ∷ drop (n + 1) xs) e ∙ sym (split_at n xs was l) in
    rw (split_set n xs x l) (step (take n xs) (drop (n + 1) xs) many fits (rw split placed))

pub placed_more : (places next : PlaceLists) (os : List Object) (i : ℕ) (d : Object) → i < length os → AllByRecursion ObjectFits os → ((xs : List Object) → length xs ≡ i → PlaceFits (get_or os i d).place → ArePlaced places xs → ArePlaced next (xs ++ get_or os i d ∷ [])) → ArePlaced places (take i os) → ArePlaced next (take (i + 1) os)
placed_more places next os i d l fits step placed =
    let many : length (take i os) ≡ i = let t = length-take i os in omega (arith, t) in
    rw (take_more os i d l) (step (take i os) many (fits_at os i d fits l) placed)

-- ---- a drone

pub drone_special : (r lost : ℕ) (o now : Object) (d : DronePart) → o.alive ≡ true → now ≡ drone_next r lost o d → is_special now ≡ true → is_special o ≡ true
unfolding drone_next
drone_special r lost o now d alive e s = absurd (let f = rw (e, alive) at s in cc)

-- ---- a mine

next_mine : Bool → Bool → Object → MinePart → Object
next_mine alive ending o m =
    cond (not alive) o (cond ending (record o { alive = false }) (record o { state = Mine (record { armed = m.armed || nat_le ARMING_AGE (aged m.age); age = aged m.age }) }))

special_by : (alive ending : Bool) (o : Object) (m : MinePart) → o.state ≡ Mine m → is_special (next_mine alive ending o m) ≡ is_armed_part (next_mine alive ending o m).state
unfolding next_mine
special_by false ending o m e = rw e refl
special_by true true o m e = rw e refl
special_by true false o m e = refl

stays_by : (alive ending : Bool) (o : Object) (m : MinePart) → (next_mine alive ending o m).place ≡ o.place
unfolding next_mine
stays_by false ending o m = refl
stays_by true true o m = refl
stays_by true false o m = refl

-- a mine is special where it is armed, and stays where it is
pub mine_special : (ending : Bool) (o now : Object) (m : MinePart) → o.state ≡ Mine m → now ≡ mine_next ending o m → is_special now ≡ is_armed_part now.state
unfolding mine_next next_mine
mine_special ending o now m e f = rw f (special_by o.alive ending o m e)

pub mine_stays : (ending : Bool) (o now : Object) (m : MinePart) → now ≡ mine_next ending o m → now.place ≡ o.place
unfolding mine_next next_mine
mine_stays ending o now m f = rw f (stays_by o.alive ending o m)
