-- The tie between a seat and what happened at it.
use Rattle.std.specs.Prelude.{◌≡◌, ℕ, ◌≤◌, ◌+◌, List, [], length, drop, slice_get, is_some, if◌then◌else◌}
use Rattle.std.specs.List.{AllByRecursion}
use Rattle.tn_types.specs.declared.choices.Drain.{Drain}
use Rattle.tn_types.specs.declared.choices.Read.{Read}
use Rattle.tn_types.specs.declared.moves.MoveBits.{MoveBits}
use Rattle.match_report.specs.declared.told.Told.{Told}
use Rattle.ghost_model.specs.Legal.{IsUp}
use Rattle.stream_manager.specs.Limits.{Terms}
use Rattle.stream_manager.specs.Server.{server_state, ghost_log}
use Rattle.conn_packing.specs.Packs.{absorbing}
use Rattle.own_lists.specs.pair_core.History.{PairStep, Pack, history}
use Rattle.own_lists.specs.pair_core.Answers.{accepted_in}
use Rattle.conn_packing.specs.Reads.{IsReadFor}
use Rattle.own_lists.specs.pair_core.Stands.{PairState, StandsFor as PairStandsFor}
use Rattle.own_lists.specs.Course.{Course, waiting_in, with_step}
use Rattle.client_seat.specs.Told.{packed_told}
use Rattle.own_lists.specs.Conditions.{MeetEach}

-- what contracts see of a seat: its connection, its accepted moves that wait for a tick, the oldest first, and how many
-- ticks took
pub record SeatState : Type 0 where
  pub pair : PairState
  pub waiting : List MoveBits
  pub taken : ℕ

-- the seat after a course
pub record Holds (s : SeatState) (t : Terms) (k : Course) : Type 0 where
  pub pair : PairStandsFor s.pair t k.steps
  pub waiting : s.waiting ≡ waiting_in t k
  pub taken : s.taken ≡ k.taken
  pub few : k.taken ≤ length (accepted_in t k.steps)

-- and no event waits, as it is between two calls
pub record StandsFor (s : SeatState) (t : Terms) (k : Course) : Type 0 where
  pub holds : Holds s t k
  pub quiet_server : s.pair.conn.common.receiver.ready ≡ []
  pub quiet_client : s.pair.client.common.receiver.ready ≡ []

-- the seat stands for some course
pub record Stands (s : SeatState) : Type 0 where
  pub terms : Terms
  pub course : Course
  pub stands : StandsFor s terms course

-- for all courses that the old seat stood for, the new one stands for what f makes of them
abbrev pub Becomes : SeatState → (Terms → Course → Course) → SeatState → Type 0
Becomes old f new = (t : Terms) (k : Course) → StandsFor old t k → StandsFor new t (f t k)

-- for all such courses the result is what f says of them
abbrev pub Answers : {R : Type 0} → SeatState → (Terms → Course → R) → R → Type 0
Answers {R} old f result = (t : Terms) (k : Course) → StandsFor old t k → result ≡ f t k

-- a seat whose oldest waiting move a tick took, if there is one
abbrev pub without_first : SeatState → SeatState
without_first s = record {
  pair = s.pair;
  waiting = drop 1 s.waiting;
  taken = s.taken + (if is_some (slice_get s.waiting 0) then 1 else 0);
}

-- the seat stands for some course after which these steps may be made, one after the other
pub record MayMake (s : SeatState) (steps : List PairStep) : Type 0 where
  pub terms : Terms
  pub course : Course
  pub stands : StandsFor s terms course
  pub meet : MeetEach terms steps course.steps

-- the periods are shown and not hidden, whatever steps the seat's connection stands for
abbrev pub AreUp : SeatState → List Drain → Type 0
AreUp s drains = (t : Terms) (steps : List PairStep) → PairStandsFor s.pair t steps
    → AllByRecursion (λ d. IsUp (ghost_log (history t steps).server) d.n) drains

-- a pack of these drains and reads, which are what its datagram needs, and what it tells
pub record Packs (old : SeatState) (drains : List Drain) (reads : List Read) (client : ℕ) (result : Told) (new : SeatState) : Type 0 where
  pub stands : Becomes old (λ t k. with_step (Pack drains reads) k) new
  pub told : Answers old (λ t k. packed_told client t k.steps drains reads) result
  pub read : (t : Terms) (k : Course) → StandsFor old t k →
      let log = (history t k.steps).server in IsReadFor t (absorbing drains log) (server_state t.config log) reads
