-- When a step may be made, by the steps before it; and which lists of steps meet this at each of them. A period is hidden,
-- brought nearer and drained only while it is shown and not hidden. A pack that makes a data packet reads exactly the fields
-- that the packet carries, in the order of its ghosts and by rising field, each in its range; a pack that makes a ping or
-- nothing drains and reads nothing.
use Rattle.std.specs.Prelude.{◌≡◌, ℕ, ◌<◌, ◌≤◌, Bool, true, false, List, [], ◌∷◌, length}
use Rattle.std.specs.List.{AllByRecursion}
use Rattle.tn_types.specs.declared.limits.TheConstants.{MAX_SHOWN_PERIODS, MAX_SHOWS, MAX_DISTANCE_LEVEL, MAX_EVENT_BYTES}
use Rattle.tn_types.specs.Bytes.{AreBytes}
use Rattle.ghost_model.specs.Scope.{shows, up_periods, had_control}
use Rattle.ghost_model.specs.Ghosts.{GhostEvent, scope_log}
use Rattle.ghost_model.specs.Legal.{IsShowable, IsUp}
use Rattle.conn_packing.specs.stream_manager.ghost_masks.Plan.{sizes}
use Rattle.conn_packing.specs.stream_manager.Limits.{Terms}
use Rattle.conn_packing.specs.stream_manager.Server.{ServerEvent, ghost_log, server_state}
use Rattle.conn_packing.specs.Packs.{absorbing}
use Rattle.conn_packing.specs.Reads.{MayDrain, IsReadFor}
use Rattle.pair_core.specs.History.{PairStep, Show, Hide, Near, Post, ClientPost, Sample, Pack, ClientPack, Down, Up, Raw, history}

-- ---- objects in scope

-- an object may be shown: its kind, its block and its level are in range, there is a place for one more period, and no other
-- period that is up has control
pub record MayBeShown (t : Terms) (log : List GhostEvent) (kind_no block_no distance : ℕ) (controls : Bool) : Type 0 where
  pub ranges : IsShowable (sizes t.kinds) kind_no block_no distance
  pub few : up_periods (scope_log log) < MAX_SHOWN_PERIODS
  pub numbers : shows (scope_log log) < MAX_SHOWS
  pub alone : controls ≡ true → had_control (scope_log log) ≡ false

pub record MayComeNear (log : List GhostEvent) (n distance : ℕ) : Type 0 where
  pub up : IsUp log n
  pub level : distance ≤ MAX_DISTANCE_LEVEL

-- ---- steps

abbrev pub IsMetAt : Terms → List ServerEvent → PairStep → Type 0
IsMetAt t log (Show kind block level control) = MayBeShown t (ghost_log log) kind block level control
IsMetAt t log (Hide n) = IsUp (ghost_log log) n
IsMetAt t log (Near n level) = MayComeNear (ghost_log log) n level
IsMetAt t log (Pack drains reads) =
    MayDrain t log (server_state t.config log) drains × IsReadFor t (absorbing drains log) (server_state t.config log) reads
IsMetAt t log (Post class v) = Unit {0}
IsMetAt t log (ClientPost class v) = Unit {0}
IsMetAt t log (Sample m) = Unit {0}
IsMetAt t log ClientPack = Unit {0}
IsMetAt t log (Down k) = Unit {0}
IsMetAt t log (Up k room) = Unit {0}
IsMetAt t log (Raw bytes room) = Unit {0}

-- the step may be made after these steps
abbrev pub IsMet : Terms → List PairStep → PairStep → Type 0
IsMet t steps step = IsMetAt t (history t steps).server step

-- each step might be made after those before it
abbrev pub AreMet : Terms → List PairStep → Type 0
AreMet t [] = Unit {0}
AreMet t (step ∷ steps) = IsMet t steps step × AreMet t steps

-- ---- payloads

-- each posted payload is a byte string of an event
abbrev pub IsPayload : List ℕ → Type 0
IsPayload v = (length v ≤ MAX_EVENT_BYTES) × AreBytes v

abbrev pub StepFits : PairStep → Type 0
StepFits (Post class v) = IsPayload v
StepFits (ClientPost class v) = IsPayload v
StepFits other = Unit {0}

-- ---- who is honest

abbrev pub IsHonestStep : PairStep → Type 0
IsHonestStep (Raw bytes room) = ⊥
IsHonestStep step = Unit {0}

-- only what the client's end sent comes to the server's end
abbrev pub IsHonest : List PairStep → Type 0
IsHonest steps = AllByRecursion IsHonestStep steps
