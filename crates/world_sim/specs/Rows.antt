-- The values of an object's fields with their versions, and what a tick writes: a field whose value differs from
-- before gets the next version. The fields of a new object begin with version 0, which is no write.
use Rattle.std.specs.Prelude.{ℕ, ℤ, pos, suc, ◌+◌, List, [], ◌∷◌, ◌++◌, map, length, replicate, Bool, ◌||◌, Option, Some, None, int_lt, if◌then◌else◌}
use Rattle.world_rules.specs.declared.object.State.{State}
use Rattle.world_rules.specs.declared.object.State.TheVariants.{Player, Disc, Mine, Drone, Flag, Clock}
use Rattle.world_rules.specs.declared.object.Object.{Object}
use Rattle.world_sim.specs.declared.rows.Write.{Write}

abbrev pub as_number : Bool → ℕ
as_number b = if b then 1 else 0

abbrev pub holder_number : Option ℕ → ℕ
holder_number None = 0
holder_number (Some client) = client + 1

abbrev pub part_values : Object → State → List ℤ
part_values o (Player p) = pos o.place.x ∷ pos o.place.y ∷ pos p.hp ∷ pos p.ammo ∷ pos p.score ∷ []
part_values o (Disc d) = pos o.place.x ∷ pos o.place.y ∷ []
part_values o (Mine m) = pos o.place.x ∷ pos o.place.y ∷ pos (as_number m.armed) ∷ []
part_values o (Drone d) = pos o.place.x ∷ pos o.place.y ∷ pos d.hp ∷ []
part_values o (Flag f) = pos o.place.x ∷ pos o.place.y ∷ pos (holder_number f.holder) ∷ []
part_values o (Clock c) = pos c.tick ∷ pos c.red ∷ pos c.blue ∷ []

-- the values of the fields, in order
abbrev pub values_of : Object → List ℤ
values_of o = part_values o o.state

abbrev pub differs : ℤ → ℤ → Bool
differs a b = int_lt a b || int_lt b a

abbrev pub version_next : ℤ → ℤ → ℕ → ℕ
version_next before now version = if differs before now then version + 1 else version

abbrev pub field_writes : ℕ → ℕ → ℤ → ℤ → ℕ → List Write
field_writes object field before now version =
    if differs before now then (record { object = object; field = field; version = version + 1; value = now }) ∷ [] else []

unfoldable pub row_versions : List ℤ → List ℤ → List ℕ → List ℕ
row_versions (a ∷ xs) (b ∷ ys) (v ∷ zs) = version_next a b v ∷ row_versions xs ys zs
row_versions _ _ _ = []

-- the writes of an object, from this field on
unfoldable pub row_writes : ℕ → ℕ → List ℤ → List ℤ → List ℕ → List Write
row_writes object field (a ∷ xs) (b ∷ ys) (v ∷ zs) = field_writes object field a b v ++ row_writes object (suc field) xs ys zs
row_writes object field _ _ _ = []

abbrev pub fresh_versions : Object → List ℕ
fresh_versions o = replicate (length (values_of o)) 0

-- the versions of all objects' fields after a tick, by the objects before and after it
unfoldable pub versions_next : List Object → List Object → List (List ℕ) → List (List ℕ)
versions_next (o ∷ before) (p ∷ after) (v ∷ versions) =
    row_versions (values_of o) (values_of p) v ∷ versions_next before after versions
versions_next _ after _ = map fresh_versions after

-- the writes of a tick from the object of this number on, by the objects before and after it
unfoldable pub world_writes : ℕ → List Object → List Object → List (List ℕ) → List Write
world_writes i (o ∷ before) (p ∷ after) (v ∷ versions) =
    row_writes i 0 (values_of o) (values_of p) v ++ world_writes (suc i) before after versions
world_writes i _ _ _ = []
