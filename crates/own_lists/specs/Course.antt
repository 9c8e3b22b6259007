-- A client's connection and its moves: the steps that were made, and how many of its accepted moves ticks took.
use Rattle.std.specs.Prelude.{ℕ, ◌+◌, ◌-◌, List, [], ◌∷◌, ◌++◌, length, drop, map, slice_get, Option}
use Rattle.tn_types.specs.declared.limits.TheConstants.{MAX_WAITING_MOVES}
use Rattle.tn_types.specs.declared.moves.MoveBits.{MoveBits}
use Rattle.client_scope.specs.declared.period.Near.{Near as NearPeriod}
use Rattle.pair_steps.specs.stream_manager.Limits.{Terms}
use Rattle.pair_steps.specs.pair_core.History.{PairStep, Show, Hide, Near}
use Rattle.pair_steps.specs.pair_core.Answers.{accepted_in}
use Rattle.own_lists.specs.declared.showing.Showing.{Showing}

pub record Course : Type 0 where
  pub steps : List PairStep
  pub taken : ℕ

-- nothing happened yet
abbrev pub beginning : Course
beginning = record { steps = []; taken = 0 }

-- the accepted moves that no tick took yet, the oldest first
abbrev pub waiting_in : Terms → Course → List MoveBits
waiting_in t k = drop k.taken (accepted_in t k.steps)

-- the move that the next tick takes
abbrev pub next_move : Terms → Course → Option MoveBits
next_move t k = slice_get (waiting_in t k) 0

-- the places that are left for moves
abbrev pub room_in : Terms → Course → ℕ
room_in t k = MAX_WAITING_MOVES - length (waiting_in t k)

abbrev pub with_step : PairStep → Course → Course
with_step step k = record { steps = step ∷ k.steps; taken = k.taken }

-- steps that are made in their order, on those that were made before
abbrev pub onto : List PairStep → List PairStep → List PairStep
onto [] steps = steps
onto (step ∷ more) steps = onto more (step ∷ steps)

abbrev pub with_steps : List PairStep → Course → Course
with_steps more k = record { steps = onto more k.steps; taken = k.taken }

-- what a tick takes is taken for good
abbrev pub ticked : ℕ → Course → Course
ticked taken k = record { steps = k.steps; taken = k.taken + taken }

-- ---- the steps of a scan

abbrev pub hide_step : ℕ → PairStep
hide_step n = Hide n

abbrev pub near_step : NearPeriod → PairStep
near_step p = Near p.n p.level

abbrev pub show_step : Showing → PairStep
show_step s = Show s.kind s.block s.level s.control

-- first the hides, then the new levels, then the shows
abbrev pub scan_steps : List ℕ → List NearPeriod → List Showing → List PairStep
scan_steps hides nears shows = map hide_step hides ++ (map near_step nears ++ map show_step shows)
