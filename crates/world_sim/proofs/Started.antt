-- The objects at the start, spawn by spawn.
use Rattle.std.proofs.Common.{◌≡◌, ℕ, ◌+◌, ◌<◌, ◌≤◌, List, [], ◌∷◌, ◌++◌, length, get_or, drop, refl, append_assoc, add-one}
use Rattle.std.proofs.lemmas.List.{drop_more, drop_all, append-nil}
use Rattle.world_rules.specs.declared.object.Object.{Object}
use Rattle.world_rules.specs.declared.setup.Spawn.{Spawn}
use Rattle.world_rules.specs.Spawning.{spawned, first_objects}

pub first_more : (front : List Object) (spawns : List Spawn) (i : ℕ) (s : Spawn) → i < length spawns → s ≡ get_or spawns i s → front ++ first_objects i (drop i spawns) ≡ (front ++ spawned i s ∷ []) ++ first_objects (i + 1) (drop (i + 1) spawns)
first_more front spawns i s l e = rw (drop_more spawns i s l, ← e, add-one, append_assoc) refl

pub first_end : (front : List Object) (spawns : List Spawn) (i : ℕ) → length spawns ≤ i → front ++ first_objects i (drop i spawns) ≡ front
first_end front spawns i l = rw (drop_all i spawns l, append-nil) refl
