-- What a pack and a client line do to a locked connection.
use Rattle.std.specs.Prelude.{◌≡◌, ℕ, ◌<◌, ◌≤◌, ◌%◌, ◌^◌, min, List, [], ◌∷◌, ◌++◌, length, map, OnOk, OnErr, IfOk, Result, Ok, Err}
use Rattle.tn_types.specs.declared.choices.Drain.{Drain}
use Rattle.tn_types.specs.declared.choices.Read.{Read}
use Rattle.tn_types.specs.declared.moves.MoveBits.{MoveBits}
use Rattle.notify_window.specs.declared.SendState.{SendState}
use Rattle.notify_window.specs.declared.SendState.TheVariants.{Held, Worn, Room}
use Rattle.ghost_masks.specs.Plan.{fields_of}
use Rattle.stream_manager.specs.Limits.{Terms}
use Rattle.stream_manager.specs.Server.{server_state}
use Rattle.kept_pair.specs.pair_core.declared.step.Answer.{Answer}
use Rattle.kept_pair.specs.pair_core.declared.step.PairStep.{PairStep as GivenStep}
use Rattle.kept_pair.specs.pair_core.declared.step.PairStep.TheVariants as given
use Rattle.kept_pair.specs.pair_core.History.{PairStep, ClientPost, Sample, ClientPack, Down, Up, Raw, Pack}
use Rattle.kept_pair.specs.pair_core.Answers.{answer}
use Rattle.kept_pair.specs.declared.fault.KeepFault.{KeepFault}
use Rattle.kept_pair.specs.declared.fault.KeepFault.TheVariants as keeps
use Rattle.connection_lock.specs.declared.limits.TheConstants.{MAX_TAKEN_MESSAGES}
use Rattle.kept_pair.specs.declared.limits.TheConstants.{MAX_KEPT_STEPS}
use Rattle.kept_pair.specs.Kept.{KeptState, terms_in, accepted_by, answer_after}
use Rattle.dirty_lanes.specs.declared.view.PackView.{PackView}
use Rattle.lane_periods.specs.Periods.{PeriodList}
use Rattle.lane_periods.specs.Views.{Drains, entries}
use Rattle.dirty_lanes.specs.declared.view.PackStep.{PackStep}
use Rattle.dirty_lanes.specs.Views.{drains}
use Rattle.pair_periods.specs.pair_steps.Steps.{up_in, traits_in}
use Rattle.pair_periods.specs.Agreement.{server_log}
use Rattle.race_messages.specs.declared.message.Message.{Message}
use Rattle.connection_lock.specs.declared.net_line.NetLine.{NetLine}
use Rattle.connection_lock.specs.declared.net_line.NetLine.TheVariants as line
use Rattle.connection_lock.specs.Taking.{Progress, Takes, TakesAll}
use Rattle.connection_lock.specs.Rule.{LockedState, AreLocked, terms_of, progress_of, progress_in}

-- ---- a message

-- what becomes of a message, over what was there before and after
pub record TakesLocked (objects : ℕ) (k : KeptState) (seat : PackView) (p : PeriodList) (m : Message) (new : KeptState) (new_seat : PackView) (q : PeriodList) : Type 0 where
  pub takes : Takes (terms_in k) objects (progress_of k seat p.objects) m (progress_of new new_seat q.objects)
  pub locked : AreLocked objects new new_seat q
  pub terms : terms_in new ≡ terms_in k
  pub client : new_seat.client ≡ seat.client

-- ---- a pack

-- the bits of a word that are fields of its period's kind
abbrev pub fields_drained : Terms → List PairStep → Drain → Drain
fields_drained t past d = record { n = d.n; bits = d.bits % 2 ^ length (fields_of t.kinds (traits_in past d.n).kind) }

-- The words that a pack took: where a data packet has room, the mask word of the object of each period that is up, by rising period,
-- and else none.
abbrev pub Words : SendState → List PairStep → List Drain → Type 0
Words Room past words = map (λ (d : Drain). d.n) words ≡ up_in past
Words Held past words = words ≡ []
Words Worn past words = words ≡ []

-- what a pack drains: at the state Room of all periods that are up, and else of none
abbrev pub DrainsAt : SendState → PeriodList → List PackStep → List PackStep → List Drain → Type 0
DrainsAt Room p old new drains = Drains p old new drains
DrainsAt Held p old new drains = (new ≡ old) × (drains ≡ [])
DrainsAt Worn p old new drains = (new ≡ old) × (drains ≡ [])

-- one Pack step was made after these
pub record Packs (t : Terms) (old : Progress) (answered : Answer) (new : Progress) : Type 0 where
  pub words : List Drain
  pub reads : List Read
  pub taken : Words (server_state t.config (server_log t old.past)) old.past words
  pub past : new.past ≡ Pack (map (fields_drained t old.past) words) reads ∷ old.past
  pub drained : new.drains ≡ old.drains ++ entries old.objects words
  pub objects : new.objects ≡ old.objects
  pub answer : answered ≡ answer t old.past (Pack (map (fields_drained t old.past) words) [])

-- there is no room exactly where as many steps are kept as can be
abbrev pub FaultAt : {A : Type 0} → ℕ → Result A KeepFault → Type 0
FaultAt kept (Ok a) = Unit {0}
FaultAt kept (Err (keeps.NoRoom n)) = (n ≡ kept) × (kept ≡ MAX_KEPT_STEPS)
FaultAt kept (Err keeps.NoMemory) = kept < MAX_KEPT_STEPS

-- messages are taken, and then, where that is not refused, the pack is made
pub record PackTurn (objects : ℕ) (old new : LockedState) (result : Result Answer KeepFault) : Type 0 where
  pub messages : List Message
  pub mid : Progress
  pub received : new.received ≡ old.received ++ messages
  pub few : length messages ≤ MAX_TAKEN_MESSAGES
  pub takes : TakesAll (terms_of old) objects (progress_in old) messages mid
  pub packs : IfOk result (λ a. Packs (terms_of old) mid a (progress_in new))
  pub refused : OnErr result (progress_in new ≡ mid)
  pub emptied : OnOk result (length messages < MAX_TAKEN_MESSAGES → new.known ≡ [])
  pub fault : FaultAt (length mid.past) result
  pub terms : terms_of new ≡ terms_of old
  pub client : new.seat.client ≡ old.seat.client
  pub sent : new.sent ≡ old.sent

-- ---- what is left when the activities have ended

-- messages are taken from the ring as before a pack, and none is made
pub record RestTurn (objects : ℕ) (old new : LockedState) (result : Result (Unit {0}) KeepFault) : Type 0 where
  pub messages : List Message
  pub received : new.received ≡ old.received ++ messages
  pub few : length messages ≤ MAX_TAKEN_MESSAGES
  pub takes : TakesAll (terms_of old) objects (progress_in old) messages (progress_in new)
  pub emptied : OnOk result (length messages < MAX_TAKEN_MESSAGES → new.known ≡ [])
  pub fault : FaultAt (length new.kept.steps) result
  pub terms : terms_of new ≡ terms_of old
  pub client : new.seat.client ≡ old.seat.client
  pub sent : new.sent ≡ old.sent

-- one message is taken, which is none of the ring's
pub record MessageTurn (objects : ℕ) (old : LockedState) (message : Message) (new : LockedState) (result : Result (Unit {0}) KeepFault) : Type 0 where
  pub takes : OnOk result (Takes (terms_of old) objects (progress_in old) message (progress_in new))
  pub unchanged : OnErr result (progress_in new ≡ progress_in old)
  pub fault : FaultAt (length old.kept.steps) result
  pub terms : terms_of new ≡ terms_of old
  pub client : new.seat.client ≡ old.seat.client
  pub received : new.received ≡ old.received
  pub sent : new.sent ≡ old.sent

-- ---- a client line

-- a step tells no greater room
abbrev pub MAX_ROOM : ℕ
MAX_ROOM = 4294967295

-- its step, where so many further moves have a place
abbrev pub line_step : ℕ → NetLine → PairStep
line_step room (line.ClientPost class v) = ClientPost class v
line_step room (line.Down k) = Down k
line_step room (line.Move m) = Sample m
line_step room line.ClientPack = ClientPack
line_step room (line.Up k) = Up k room
line_step room (line.Raw bytes) = Raw bytes room

-- the same step as it is given
abbrev pub line_given : ℕ → NetLine → GivenStep
line_given room (line.ClientPost class v) = given.ClientPost class v
line_given room (line.Down k) = given.Down k
line_given room (line.Move m) = given.Sample m
line_given room line.ClientPack = given.ClientPack
line_given room (line.Up k) = given.Up k room
line_given room (line.Raw bytes) = given.Raw bytes room

-- the step was made, in which no more moves were accepted than had a place
pub record StepsLine (old : KeptState) (netline : NetLine) (room : ℕ) (answered : Answer) (new : KeptState) : Type 0 where
  pub kept : new.steps ≡ old.steps ++ line_step room netline ∷ []
  pub answer : answered ≡ answer_after old (line_step room netline)
  pub moves : List MoveBits
  pub accepted : accepted_by new new.steps ≡ accepted_by old old.steps ++ moves
  pub few : length moves ≤ room

-- the step was made; the moves that were accepted in it went into the outbox, whose free places were the room
pub record MadeLine (old : KeptState) (sent : List MoveBits) (free : ℕ) (netline : NetLine) (answered : Answer) (new : KeptState) (now_sent : List MoveBits) : Type 0 where
  pub room : ℕ
  pub moves : List MoveBits
  pub known : min free MAX_ROOM ≤ room
  pub kept : new.steps ≡ old.steps ++ line_step room netline ∷ []
  pub answer : answered ≡ answer_after old (line_step room netline)
  pub accepted : accepted_by new new.steps ≡ accepted_by old old.steps ++ moves
  pub handed : now_sent ≡ sent ++ moves

pub record NetTurn (old : LockedState) (netline : NetLine) (new : LockedState) (result : Result Answer KeepFault) : Type 0 where
  pub step : IfOk result (λ a. MadeLine old.kept old.sent old.free netline a new.kept new.sent)
  pub unchanged : OnErr result (new ≡ old)
  pub fault : FaultAt (length old.kept.steps) result
  pub terms : terms_of new ≡ terms_of old
  pub seat : new.seat ≡ old.seat
  pub objects : new.objects ≡ old.objects
  pub received : new.received ≡ old.received
