-- What a simulation holds, and what it has behind the lines that it did: its world and its values are those that its moves make, and
-- each port was given exactly the messages of the lines, over these worlds. Lines are listed newest first.
use Rattle.std.specs.Prelude.{◌≡◌, ℕ, ◌*◌, ◌<◌, ◌≤◌, ◌++◌, Bool, true, false, List, ◌∷◌, length, slice_index_or}
use Rattle.tn_types.specs.declared.limits.TheConstants.{MAX_OBJECTS}
use Rattle.match_script.specs.declared.limits.TheConstants.{MAX_BODY_LINES}
use Rattle.dirty_lanes.specs.declared.view.SimView.{SimView}
use Rattle.match_script.specs.declared.types.BodyLine.{BodyLine}
use Rattle.match_script.specs.declared.types.BodyLine.TheVariants as script
use Rattle.match_script.specs.declared.types.Script.{Script}
use Rattle.match_script.specs.Ranges.{LineFits}
use Rattle.world_sim.specs.Worlds.{Worlds}
use Rattle.world_lanes.specs.Behind.{IsBrought}
use Rattle.client_scope.specs.StandsFor.{StandsFor}
use Rattle.race_messages.specs.declared.message.Message.{Message}
use Rattle.race_course.specs.Messages.{Ticks, ticks_in, scans_of, messages}
use Rattle.race_course.specs.Course.{all_messages}
use Rattle.race_history.specs.History.{Values, HasVersions, IsHistoryOf, world_after}
use Rattle.race_history.specs.Moves.{MovesFit, moves_taken}
use Rattle.race_sim.specs.Ports.{PortState, given_to}

pub record SimulationState : Type 0 where
  pub world : Worlds
  pub seat : SimView
  pub ports : List PortState
  pub values : Values
  pub moves : Ticks

-- the simulation does such lines
abbrev pub is_own : BodyLine → Bool
is_own script.Tick = true
is_own (script.Scan client) = true
is_own (script.Post client class payload) = true
is_own line = false

-- the port of client c behind these lines: it was given the messages of the lines, and its moves are those that the ticks took
pub record IsPortAt (p : PortState) (first : Worlds) (ticks : Ticks) (c : ℕ) (past : List BodyLine) : Type 0 where
  pub scope : StandsFor p.scope (scans_of first ticks c past)
  pub given : given_to p ≡ messages first ticks c past
  pub taken : p.taken ≡ moves_taken c ticks
  pub few : p.scope.count ≤ MAX_OBJECTS * length past

-- the simulation did these lines, from this world on
pub record HasDone (first : Worlds) (past : List BodyLine) (s : SimulationState) : Type 0 where
  pub world : s.world ≡ world_after first s.moves
  pub ticks : s.world.ticks ≡ ticks_in past
  pub moves : MovesFit (ticks_in past) (length s.ports) s.moves
  pub values : IsHistoryOf first s.moves s.values
  pub versions : HasVersions s.world
  pub port : (c : ℕ) (d : PortState) → c < length s.ports → IsPortAt (slice_index_or s.ports c d) first s.moves c past

-- a line that may come next: the lanes have each field of the world
pub record MayDo (line : BodyLine) (s : SimulationState) : Type 0 where
  pub first : Worlds
  pub past : List BodyLine
  pub done : HasDone first past s
  pub fits : LineFits (length s.ports) line
  pub few : length past < MAX_BODY_LINES
  pub brought : IsBrought s.world s.seat.steps

-- whatever lines were done, this one is done behind them
abbrev pub Does : BodyLine → SimulationState → SimulationState → Type 0
Does line old new = (first : Worlds) (past : List BodyLine) → HasDone first past old → HasDone first (line ∷ past) new

-- these are the rest of all messages that the script gives the client
pub record IsRestOf (script : Script) (ticks : Ticks) (c : ℕ) (rest : List Message) : Type 0 where
  pub passed : List Message
  pub whole : all_messages script ticks c ≡ passed ++ rest

-- for each client
pub record AreRests (script : Script) (ticks : Ticks) (waiting : List (List Message)) : Type 0 where
  pub count : length waiting ≡ script.head.clients
  pub each : (c : ℕ) (d : List Message) → c < script.head.clients → IsRestOf script ticks c (slice_index_or waiting c d)
