-- What is left of a connection when all activities have ended. What nobody took becomes steps, first what the ring still has and then
-- what waits at the simulation; and the client is full exactly where its packer, its net or one of these messages met no room.
use Rattle.std.specs.Prelude.{◌≡◌, refl, ℕ, ◌+◌, ◌*◌, ◌++◌, Bool, true, false, ◌||◌, List, [], length, slice_get, get_or, Option, Some, None, OnOk, Result, Ok, Err}
use Rattle.race_messages.specs.declared.message.Message.{Message}
use Rattle.connection_lock.specs.Rule.{LockedState, LockHolds, terms_of, progress_in}
use Rattle.connection_lock.specs.Taking.{TakesAll}
use Rattle.connection_lock.specs.Turns.{FaultAt}
use Rattle.race_history.specs.kept_pair.declared.fault.KeepFault.{KeepFault}
use Rattle.race_history.specs.kept_pair.declared.fault.KeepFault.TheVariants.{NoRoom}
use Rattle.race_history.specs.declared.race.RaceClient.{RaceClient}

-- an activity stopped since no more steps can be kept
abbrev pub met_no_room : Option KeepFault → Bool
met_no_room (Some (NoRoom kept)) = true
met_no_room other = false

-- the fault with which a call ended, if it did
abbrev pub fault_of : Result (Unit {0}) KeepFault → Option KeepFault
fault_of (Ok done) = None
fault_of (Err fault) = Some fault

-- what the ring had, and then what waited, was taken in order; where a message met a fault, it and those behind it were not
pub record TakesLeft (objects : ℕ) (old : LockedState) (waited : List Message) (new : LockedState) (result : Result (Unit {0}) KeepFault) : Type 0 where
  pub ring : List Message
  pub behind : List Message
  pub rest : List Message
  pub received : new.received ≡ old.received ++ ring
  pub parts : waited ≡ behind ++ rest
  pub all : OnOk result (behind ≡ waited)
  pub takes : TakesAll (terms_of old) objects (progress_in old) (ring ++ behind) (progress_in new)
  pub terms : terms_of new ≡ terms_of old
  pub client : new.seat.client ≡ old.seat.client
  pub fault : FaultAt (length new.kept.steps) result

-- a client, of which so much waited, and whose packer and net stopped so
pub record IsEnded (objects : ℕ) (waited : List Message) (packer net : Option KeepFault) (c : RaceClient) : Type 0 where
  pub before : LockedState
  pub after : LockedState
  pub result : Result (Unit {0}) KeepFault
  pub held : LockHolds before
  pub takes : TakesLeft objects before waited after result
  pub pair : c.pair ≡ after.kept
  pub own : c.objects ≡ after.objects
  pub full : c.full ≡ (met_no_room (fault_of result) || (met_no_room packer || met_no_room net))

-- each client, by its number
abbrev pub AreEnded : ℕ → List (List Message) → List (Option KeepFault) → List RaceClient → Type 0
AreEnded objects waited stopped clients = (i : ℕ) (c : RaceClient) → slice_get clients i ≡ Some c
    → IsEnded objects (get_or waited i []) (get_or stopped (2 * i) None) (get_or stopped (2 * i + 1) None) c

-- ---- examples

no_more_room : met_no_room (Some (NoRoom 65536)) ≡ true
no_more_room = refl

at_its_end : met_no_room None ≡ false
at_its_end = refl
