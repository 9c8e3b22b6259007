use Rattle.std.proofs.Common.{◌≡◌, ◌<◌, ℕ, length, slice_index_or}
use Rattle.match_laws.specs.own_lists.Course.{beginning}
use Rattle.match_laws.specs.own_lists.Past.{client_terms}
use Rattle.match_laws.specs.client_seat.Stands.{SeatState, StandsFor}
use Rattle.match_engine.specs.Stands.{keeps_all}
use Rattle.match_engine.proofs.game.seats_of.Given as goal

abbrev pub invariant-seats : goal.invariant-seats
invariant-seats l = record {
  count : length l.seats.items ≡ l.client;
  stands : (c : ℕ) (d : SeatState) → c < l.client → StandsFor (slice_index_or l.seats.items c d) (client_terms l.head c) beginning;
  keeps : (c : ℕ) (d : SeatState) → c < l.client → (slice_index_or l.seats.items c d).pair.keeps_all ≡ keeps_all l.keeps;
}
