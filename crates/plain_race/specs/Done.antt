-- What was done for one client in a race that is made plainly: first its lines, in the order of the script, then its messages. These
-- are words of private calls; when a race is legal is said in legal_race.
use Rattle.std.specs.Prelude.{◌≡◌, ℕ, ◌≤◌, Bool, true, false, List, [], ◌∷◌, ◌++◌, length, map, reverse, take, slice_get, Some}
use Rattle.std.specs.List.{AllByRecursion}
use Rattle.std.specs.Option.{option_and_then}
use Rattle.kept_pair.specs.declared.limits.TheConstants.{MAX_KEPT_STEPS}
use Rattle.match_script.specs.declared.types.BodyLine.{BodyLine}
use Rattle.pair_core.specs.stream_manager.Limits.{Terms}
use Rattle.pair_core.specs.History.{PairStep, Show, Hide, Near, Post, Pack}
use Rattle.pair_core.specs.Answers.{accepted_in}
use Rattle.pair_core.specs.Conditions.{AreMet}
use Rattle.kept_pair.specs.Kept.{KeptState, Replays, newest_first, terms_in}
use Rattle.race_messages.specs.declared.message.Message.{Message}
use Rattle.race_messages.specs.Steps.{step_for}
use Rattle.match_script.specs.declared.types.Script.{Script}
use Rattle.own_lists.specs.Past.{client_terms}
use Rattle.legal_race.specs.race_history.declared.race.RaceClient.{RaceClient}
use Rattle.legal_race.specs.race_course.Course.{all_messages}
use Rattle.plain_race.specs.Idle.{idle_in}
use Rattle.legal_race.specs.race_steps.Asked.{IsRoom, room_found, packs_made, packs_asked, acts_done, acts_asked, objects_shown, steps_asked}

-- a step of the client or of the network, or a pack that read nothing
abbrev pub IsOwnStep : PairStep → Type 0
IsOwnStep (Show kind block level control) = ⊥
IsOwnStep (Hide n) = ⊥
IsOwnStep (Near n level) = ⊥
IsOwnStep (Post class v) = ⊥
IsOwnStep (Pack drains reads) = reads ≡ []
IsOwnStep step = Unit {0}

-- each step found places that there may have been after the steps before it
abbrev pub AreRoomsIn : Terms → List PairStep → Type 0
AreRoomsIn t steps =
    (i room : ℕ) → option_and_then room_found (slice_get steps i) ≡ Some room
    → IsRoom (length (accepted_in t (newest_first (take i steps)))) room

-- the steps of client c are those of these lines
pub record AreStepsOf (t : Terms) (c : ℕ) (lines : List BodyLine) (steps : List PairStep) : Type 0 where
  pub own : AllByRecursion IsOwnStep steps
  pub packs : packs_made steps ≡ packs_asked c lines
  pub acts : acts_done steps ≡ acts_asked c lines
  pub rooms : AreRoomsIn t steps

-- these lines were done, and then these messages taken
pub record IsDone (t : Terms) (c : ℕ) (lines : List BodyLine) (given : List Message) (steps : List PairStep) (objects : List ℕ) : Type 0 where
  pub own : List PairStep
  pub own_are : AreStepsOf t c lines own
  pub steps_are : steps ≡ own ++ map step_for given
  pub objects_are : objects ≡ objects_shown given

-- some of them, and there is no room for the step that is asked for next
pub record IsStopped (t : Terms) (c : ℕ) (lines : List BodyLine) (given : List Message) (steps : List PairStep) (objects : List ℕ) : Type 0 where
  pub done : List BodyLine
  pub later : List BodyLine
  pub taken : List Message
  pub left : List Message
  pub is_done : IsDone t c done taken steps objects
  pub lines_are : lines ≡ done ++ later
  pub given_are : given ≡ taken ++ left
  pub no_room : length steps ≡ MAX_KEPT_STEPS
  pub wanting : 1 ≤ steps_asked c later left

-- all of them, or where the client is full the first of them
abbrev pub IsEnded : Bool → Terms → ℕ → List BodyLine → List Message → List PairStep → List ℕ → Type 0
IsEnded true t c lines given steps objects = IsStopped t c lines given steps objects
IsEnded false t c lines given steps objects = IsDone t c lines given steps objects

-- ---- one call

-- there was no room for a step, and nothing was done
pub record IsRefused (old new : KeptState) : Type 0 where
  pub steps : new.steps ≡ old.steps
  pub no_room : length old.steps ≡ MAX_KEPT_STEPS

-- for all lines that were done before, this one was done too
abbrev pub DoesLine : ℕ → BodyLine → KeptState → KeptState → Type 0
DoesLine c line old new =
    (lines : List BodyLine) → AreStepsOf (terms_in old) c lines old.steps → AreStepsOf (terms_in old) c (lines ++ line ∷ []) new.steps

-- the line asks for a step, for which there is no room
pub record StopsAtLine (c : ℕ) (line : BodyLine) (old new : KeptState) : Type 0 where
  pub refused : IsRefused old new
  pub asks : (later : List BodyLine) (given : List Message) → 1 ≤ steps_asked c (line ∷ later) given

-- these messages were taken
pub record Takes (given : List Message) (old new : KeptState) (objects : List ℕ) : Type 0 where
  pub steps : new.steps ≡ old.steps ++ map step_for given
  pub objects_are : objects ≡ objects_shown given

-- the first of them were taken, and there is no room for the next
pub record StopsAtMessage (given : List Message) (old new : KeptState) (objects : List ℕ) : Type 0 where
  pub taken : List Message
  pub next : Message
  pub left : List Message
  pub given_are : given ≡ taken ++ next ∷ left
  pub takes : Takes taken old new objects
  pub no_room : length new.steps ≡ MAX_KEPT_STEPS

-- each of these messages may become a step after those before it, and no period was shown before
pub record MayTakeAll (k : KeptState) (given : List Message) : Type 0 where
  pub met : AreMet (terms_in k) (reverse (map step_for given))
  pub own : AllByRecursion IsOwnStep k.steps

-- what was kept of client c, where no tick takes a move
pub record IsPlain (script : Script) (c : ℕ) (client : RaceClient) : Type 0 where
  pub terms : terms_in client.pair ≡ client_terms script.head c
  pub replays : Replays client.pair.pair client.pair.steps
  pub ended : IsEnded client.full (client_terms script.head c) c script.body (all_messages script (idle_in script) c) client.pair.steps client.objects
