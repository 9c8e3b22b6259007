-- What a list of stored fields tells, and what telling it to every client changes: nothing of the fields, and for each client those that
-- are told are no longer pending.
use Rattle.std.specs.Prelude.{◌≡◌, ℕ, ◌==◌, ◌&&◌, Bool, not, nat_lt, List}
use Rattle.std.specs.List.{list_any}
use Rattle.tn_types.specs.BitWords.{has_bit}
use Rattle.dirty_lanes.specs.declared.view.SimStep.{SimStep}
use Rattle.dirty_lanes.specs.Views.{newest, newest_value, pending}
use Rattle.world_lanes.specs.declared.raising.Changed.{Changed}

abbrev pub is_of : ℕ → ℕ → Changed → Bool
is_of object field c = (c.object == object) && has_bit c.bits field

-- the field is one of these
abbrev pub is_told : List Changed → ℕ → ℕ → Bool
is_told told object field = list_any (is_of object field) told

-- the chosen fields were told to the clients below `clients`
pub record Tells (chosen : ℕ → ℕ → Bool) (clients : ℕ) (old new : List SimStep) : Type 0 where
  pub versions : (object field : ℕ) → newest new object field ≡ newest old object field
  pub values : (object field : ℕ) → newest_value new object field ≡ newest_value old object field
  pub waiting : (client object field : ℕ) → pending new client object field
      ≡ (pending old client object field && not (nat_lt client clients && chosen object field))
