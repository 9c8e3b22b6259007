-- A pair that keeps its steps. It stands for one list, the kept steps, so its clauses speak of that list: what a call asks of the
-- steps before it, what it answers of them, and what all of them together mean.
use Rattle.std.specs.Prelude.{◌≡◌, ℕ, ℤ, ◌*◌, ◌<◌, ◌≤◌, Bool, true, Option, Result, Ok, Err, List, [], reverse, length, take, slice_index}
use Rattle.std.specs.List.{AllByRecursion}
use Rattle.tn_types.specs.declared.limits.TheConstants.{MAX_PACKET_MOVES}
use Rattle.kept_pair.specs.declared.limits.TheConstants.{MAX_KEPT_STEPS}
use Rattle.tn_types.specs.declared.choices.Drain.{Drain}
use Rattle.tn_types.specs.declared.moves.MoveBits.{MoveBits}
use Rattle.pair_core.specs.stream_manager.Limits.{Terms}
use Rattle.pair_core.specs.stream_manager.Stands.{terms_of}
use Rattle.pair_core.specs.stream_manager.Server.{server_state, ghost_log}
use Rattle.pair_core.specs.declared.step.PairStep.{PairStep as GivenStep}
use Rattle.pair_core.specs.declared.step.PairStep.TheVariants as given
use Rattle.pair_core.specs.declared.step.Answer.{Answer}
use Rattle.pair_core.specs.History.{PairStep, history}
use Rattle.pair_core.specs.conn_packing.Reads.{MayDrain, HasRanges}
use Rattle.pair_core.specs.Conditions.{IsMet, AreMet}
use Rattle.pair_core.specs.Answers.{answer, accepted_in}
use Rattle.pair_core.specs.Conditions.{StepFits}
use Rattle.pair_core.specs.Stands.{PairState, StandsFor}
use Rattle.kept_pair.specs.declared.fault.KeepFault.{KeepFault}
use Rattle.kept_pair.specs.declared.fault.KeepFault.TheVariants as keeps

pub record KeptState : Type 0 where
  pub pair : PairState
  pub steps : List PairStep  -- the oldest first
  pub prepared : Bool  -- there is room for one more step
  pub drains : ℕ  -- and for so many drains of it

-- what the connection was made with
abbrev pub terms_in : KeptState → Terms
terms_in k = terms_of k.pair.conn

-- steps as the laws of a pair have them
abbrev pub newest_first : List PairStep → List PairStep
newest_first steps = reverse steps

-- no step was made on the pair, and it keeps each datagram
pub record IsFresh (p : PairState) : Type 0 where
  pub terms : Terms
  pub stands : StandsFor p terms []
  pub keeps_all : p.keeps_all ≡ true

-- ---- kept steps replay

-- the pair is the pair after these steps, each of which might be made after those before it, and had payloads in range: so each
-- law of a pair speaks of them
pub record Replays (p : PairState) (steps : List PairStep) : Type 0 where
  pub stands : StandsFor p (terms_of p.conn) (newest_first steps)
  pub met : AreMet (terms_of p.conn) (newest_first steps)
  pub fit : AllByRecursion StepFits (newest_first steps)
  pub few : length steps ≤ MAX_KEPT_STEPS

-- the moves that the server accepted in these steps, the oldest first
abbrev pub accepted_by : KeptState → List PairStep → List MoveBits
accepted_by k steps = accepted_in (terms_in k) (newest_first steps)

-- ---- calls

-- the step may be made after the kept ones
abbrev pub MayStep : KeptState → PairStep → Type 0
MayStep k step = IsMet (terms_in k) (newest_first k.steps) step

-- a delivery finds no event that waits at its end, and a pack is made by a call of its own
abbrev pub IsReady : PairState → GivenStep → Type 0
IsReady p given.Pack = ⊥
IsReady p (given.Down k) = p.client.common.receiver.ready ≡ []
IsReady p (given.Up k room) = p.conn.common.receiver.ready ≡ []
IsReady p (given.Raw bytes room) = p.conn.common.receiver.ready ≡ []
IsReady p other = Unit {0}

-- after the kept steps these drains may be absorbed, and these values are all that a packet may need
pub record MayPack (k : KeptState) (drains : List Drain) (ranges : ℕ → ℕ → Option (ℤ × ℤ)) : Type 0 where
  pub drained : let log = (history (terms_in k) (newest_first k.steps)).server in MayDrain (terms_in k) log (server_state (terms_in k).config log) drains
  pub ranged : HasRanges (terms_in k) (ghost_log (history (terms_in k) (newest_first k.steps)).server) ranges

-- what a step answers after the kept ones
abbrev pub answer_after : KeptState → PairStep → Answer
answer_after k step = answer (terms_in k) (newest_first k.steps) step

-- there is no room exactly where as many steps are kept as can be
abbrev pub HasCause : ℕ → Result (Unit {0}) KeepFault → Type 0
HasCause kept (Ok u) = kept < MAX_KEPT_STEPS
HasCause kept (Err (keeps.NoRoom n)) = (n ≡ kept) × (kept ≡ MAX_KEPT_STEPS)
HasCause kept (Err keeps.NoMemory) = kept < MAX_KEPT_STEPS

-- there is room for one more step with so many drains, and all else is as it was
abbrev pub Prepares : ℕ → KeptState → KeptState → Type 0
Prepares drains old new = new ≡ record old { pair = record old.pair { prepared = true }; prepared = true; drains = drains }

-- ---- what is kept beside the steps

-- the moves of all steps, and how many there were before each
pub record AreKept (p : PairState) (steps : List PairStep) (moves : List MoveBits) (befores : List ℕ) : Type 0 where
  pub replays : Replays p steps
  pub moves_are : moves ≡ accepted_in (terms_of p.conn) (newest_first steps)
  pub each : (i : ℕ) → i < length steps → slice_index befores i ≡ length (accepted_in (terms_of p.conn) (newest_first (take i steps)))
  pub long : length befores ≡ length steps
  pub few_moves : length moves ≤ MAX_PACKET_MOVES * length steps
  pub keeps_all : p.keeps_all ≡ true
  pub few_down : p.sent ≤ length steps
  pub few_up : length p.up ≤ length steps
