-- What is made of a script and the moves of its ticks: the values by version, and for each client its scope and its messages.
use Rattle.std.specs.Prelude.{◌≡◌, ℕ, ◌*◌, ◌<◌, ◌≤◌, List, [], ◌∷◌, length, map, reverse, slice_get, slice_index_or, take, Some}
use Rattle.tn_types.specs.declared.limits.TheConstants.{MAX_OBJECTS}
use Rattle.match_script.specs.declared.limits.TheConstants.{MAX_BODY_LINES}
use Rattle.match_script.specs.declared.types.BodyLine.{BodyLine}
use Rattle.match_script.specs.declared.types.Script.{Script}
use Rattle.match_script.specs.Ranges.{LineFits}
use Rattle.world_sim.specs.Worlds.{Worlds, first_world}
use Rattle.client_scope.specs.StandsFor.{Table, StandsFor}
use Rattle.race_messages.specs.declared.message.Message.{Message}
use Rattle.race_history.specs.History.{Values, IsHistoryOf}
use Rattle.race_course.specs.Messages.{Ticks, ticks_in, world_at, scans_of, messages}

pub record CourseState : Type 0 where
  pub values : Values
  pub messages : List (List Message)

-- the world before the first line of a script
abbrev pub world_of : Script → Worlds
world_of script = first_world script.head.seed script.head.setup

-- all that a script gives to client c
abbrev pub all_messages : Script → Ticks → ℕ → List Message
all_messages script ticks c = messages (world_of script) ticks c (reverse script.body)

-- the values by version and the messages of each client are those of the worlds that the moves make
pub record IsCourseOf (course : CourseState) (script : Script) (ticks : Ticks) : Type 0 where
  pub values : IsHistoryOf (world_of script) ticks course.values
  pub clients : length course.messages ≡ script.head.clients
  pub messages : (c : ℕ) → c < script.head.clients → slice_get course.messages c ≡ Some (all_messages script ticks c)

-- ---- on the way

pub record ClientState : Type 0 where
  pub scope : Table
  pub messages : List Message

-- a client behind these lines
pub record IsClientAt (k : ClientState) (first : Worlds) (ticks : Ticks) (c : ℕ) (past : List BodyLine) : Type 0 where
  pub scope : StandsFor k.scope (scans_of first ticks c past)
  pub messages : k.messages ≡ messages first ticks c past
  pub few : k.scope.count ≤ MAX_OBJECTS * length past

-- clients before the first line
abbrev pub AreNew : List ClientState → Type 0
AreNew clients = (c : ℕ) (d : ClientState) → c < length clients → (first : Worlds) (ticks : Ticks) (client : ℕ)
    → IsClientAt (slice_index_or clients c d) first ticks client []

pub record MakingState : Type 0 where
  pub world : Worlds
  pub values : Values
  pub clients : List ClientState

-- what was made of these lines
pub record IsMadeOf (m : MakingState) (first : Worlds) (ticks : Ticks) (clients : ℕ) (past : List BodyLine) : Type 0 where
  pub world : m.world ≡ world_at first ticks past
  pub done : m.world.ticks ≡ ticks_in past
  pub values : IsHistoryOf first (take (ticks_in past) ticks) m.values
  pub count : length m.clients ≡ clients
  pub client : (c : ℕ) (d : ClientState) → c < clients → IsClientAt (slice_index_or m.clients c d) first ticks c past

-- a line that may come next: the ticks with it are no more than there are moves for
pub record MayFollow (m : MakingState) (ticks : Ticks) (line : BodyLine) : Type 0 where
  pub first : Worlds
  pub clients : ℕ
  pub past : List BodyLine
  pub made : IsMadeOf m first ticks clients past
  pub fits : LineFits clients line
  pub few : length past < MAX_BODY_LINES
  pub there : ticks_in (line ∷ past) ≤ length ticks

-- for all lines that the old state was made of, the new one is made of these and this one more
abbrev pub Follows : MakingState → MakingState → Ticks → BodyLine → Type 0
Follows old new ticks line =
    (first : Worlds) (clients : ℕ) (past : List BodyLine) → IsMadeOf old first ticks clients past
    → IsMadeOf new first ticks clients (line ∷ past)

-- the messages of each client
abbrev pub messages_of : List ClientState → List (List Message)
messages_of clients = map (λ (k : ClientState). k.messages) clients
