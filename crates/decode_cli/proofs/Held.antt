-- Lists by slot whose kinds are those of a match.
use Rattle.std.proofs.Common.{ℕ, zero, suc, ◌<◌, List, [], ◌∷◌, Option, Some, None}
use Rattle.std.specs.Prelude.{replicate, slice_set}
use Rattle.world_rules.specs.Kinds.{match_kinds}
use Rattle.wire_format.specs.Ghosts.{held_in, AreOfTable}

pub none_of_table : (many : ℕ) → AreOfTable match_kinds (held_in (replicate many None))
none_of_table zero slot = tt
none_of_table (suc many) zero = tt
none_of_table (suc many) (suc slot) = none_of_table many slot

pub set_of_table : (held : List (Option ℕ)) → AreOfTable match_kinds (held_in held) → (slot kind : ℕ) → kind < 6 → AreOfTable match_kinds (held_in (slice_set held slot (Some kind)))
set_of_table [] h n k l slot = tt
set_of_table (o ∷ os) h zero k l zero = l
set_of_table (o ∷ os) h zero k l (suc slot) = h (suc slot)
set_of_table (o ∷ os) h (suc n) k l zero = h 0
set_of_table (o ∷ os) h (suc n) k l (suc slot) = set_of_table os (λ s. h (suc s)) n k l slot

pub clear_of_table : (held : List (Option ℕ)) → AreOfTable match_kinds (held_in held) → (slot : ℕ) → AreOfTable match_kinds (held_in (slice_set held slot None))
clear_of_table [] h n slot = tt
clear_of_table (o ∷ os) h zero zero = tt
clear_of_table (o ∷ os) h zero (suc slot) = h (suc slot)
clear_of_table (o ∷ os) h (suc n) zero = h 0
clear_of_table (o ∷ os) h (suc n) (suc slot) = clear_of_table os (λ s. h (suc s)) n slot
