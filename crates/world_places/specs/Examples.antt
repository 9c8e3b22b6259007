-- Two objects: a drone at (3, 4), and an armed mine at (7, 8), which has the second bit.
use Rattle.std.specs.Prelude.{◌≡◌, refl, [], ◌∷◌, true, false}
use Rattle.world_rules.specs.declared.object.State.TheVariants.{Mine, Drone}
use Rattle.world_places.specs.Places.{PlaceLists, place_in, special_in, is_special_part}

abbrev two : PlaceLists
two = record { xs = 3 ∷ 7 ∷ []; ys = 4 ∷ 8 ∷ []; special = 2 ∷ [] }

first : place_in two 0 ≡ record { x = 3; y = 4 }
first = refl

second : place_in two 1 ≡ record { x = 7; y = 8 }
second = refl

plain : special_in two 0 ≡ 0
plain = refl

marked : special_in two 1 ≡ 1
marked = refl

drone : is_special_part (Drone (record { number = 0; hp = 100 })) ≡ false
drone = refl

young : is_special_part (Mine (record { armed = false; age = 3 })) ≡ false
young = refl

armed : is_special_part (Mine (record { armed = true; age = 12 })) ≡ true
armed = refl
