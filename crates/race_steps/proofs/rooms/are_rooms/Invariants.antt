use Rattle.std.proofs.Common.{◌≡◌, ℕ, ◌<◌, take, length, Some}
use Rattle.std.specs.Prelude.{slice_get}
use Rattle.std.specs.Option.{option_and_then}
use Rattle.kept_pair.specs.Kept.{accepted_by}
use Rattle.race_steps.specs.Asked.{IsRoom, room_found}
use Rattle.race_steps.proofs.rooms.are_rooms.Given as goal

abbrev pub invariant-loop-i : goal.invariant-loop-i
invariant-loop-i l = (j room : ℕ) → j < l.i → option_and_then room_found (slice_get l.pair.steps j) ≡ Some room → IsRoom (length (accepted_by l.pair (take j l.pair.steps))) room
