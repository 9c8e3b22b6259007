-- Places in the field, in centimetres, and steps. Distance is the greater of both ways.
use Rattle.std.specs.Prelude.{ℕ, ℤ, pos, negsuc, ◌+◌, ◌-◌, ◌+ℤ◌, ◌*ℤ◌, min, max, Bool, false, nat_le}
use Rattle.world_rules.specs.declared.limits.TheConstants.{MAX_COORDINATE}
use Rattle.world_rules.specs.declared.measures.TheConstants.{PLAYER_STEP}
use Rattle.tn_types.specs.declared.moves.Move.{Move}
use Rattle.world_rules.specs.declared.object.Place.{Place}

abbrev pub apart : ℕ → ℕ → ℕ
apart a b = (a - b) + (b - a)

unfoldable pub is_within : ℕ → Place → Place → Bool
is_within reach a b = nat_le (max (apart a.x b.x) (apart a.y b.y)) reach

abbrev pub clamp : ℤ → ℕ
clamp (pos n) = min n MAX_COORDINATE
clamp (negsuc n) = 0

abbrev pub is_in_field : ℤ → Bool
is_in_field (pos n) = nat_le n MAX_COORDINATE
is_in_field (negsuc n) = false

abbrev pub stepped : Place → Move → Place
stepped p m = record { x = clamp (pos p.x +ℤ PLAYER_STEP *ℤ m.dx); y = clamp (pos p.y +ℤ PLAYER_STEP *ℤ m.dy) }
