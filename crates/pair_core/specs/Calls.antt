-- What a call on a pair does to the steps that it stands for, what it answers of them, and what it leaves alone.
use Rattle.std.specs.Prelude.{◌≡◌, ℕ, ℤ, ◌<◌, true, Option, List, [], ◌∷◌, ◌++◌, length}
use Rattle.tn_types.specs.Histories as histories
use Rattle.tn_types.specs.declared.limits.TheConstants.{MAX_DATAGRAMS}
use Rattle.tn_types.specs.declared.choices.Drain.{Drain}
use Rattle.tn_types.specs.declared.choices.Read.{Read}
use Rattle.conn_packing.specs.stream_manager.Limits.{Terms}
use Rattle.conn_packing.specs.stream_manager.ConnCalls as conn
use Rattle.conn_packing.specs.stream_manager.ClientCalls as client
use Rattle.conn_packing.specs.stream_manager.Server.{server_state, ghost_log}
use Rattle.pair_core.specs.declared.step.PairStep.{PairStep as GivenStep}
use Rattle.pair_core.specs.declared.step.PairStep.TheVariants as given
use Rattle.pair_core.specs.declared.step.Answer.{Answer}
use Rattle.pair_core.specs.declared.step.Answer.TheVariants as says
use Rattle.pair_core.specs.History.{PairStep, Show, Hide, Near, Post, ClientPost, Sample, Pack, ClientPack, Down, Up, Raw, history}
use Rattle.conn_packing.specs.Reads.{MayDrain, IsReadFor, HasRanges}
use Rattle.pair_core.specs.Conditions.{IsMet}
use Rattle.pair_core.specs.Answers.{client_delivered, server_delivered, accepted_in}
use Rattle.pair_core.specs.Stands.{PairState, StandsFor}
use Rattle.conn_packing.specs.Packs.{absorbing}

-- the step that is given; a pack is made by a call of its own
abbrev pub step_of : GivenStep → PairStep
step_of (given.Show kind block level control) = Show kind block level control
step_of (given.Hide n) = Hide n
step_of (given.Near n level) = Near n level
step_of (given.Post class v) = Post class v
step_of (given.ClientPost class v) = ClientPost class v
step_of (given.Sample m) = Sample m
step_of given.Pack = Pack [] []
step_of given.ClientPack = ClientPack
step_of (given.Down k) = Down k
step_of (given.Up k room) = Up k room
step_of (given.Raw bytes room) = Raw bytes room

-- ---- conditions

-- the pair stands for some steps
pub record Stands (p : PairState) : Type 0 where
  pub terms : Terms
  pub steps : List PairStep
  pub stands : StandsFor p terms steps

-- it stands for some steps after which this one may be made
pub record Meets (p : PairState) (step : PairStep) : Type 0 where
  pub terms : Terms
  pub steps : List PairStep
  pub stands : StandsFor p terms steps
  pub met : IsMet terms steps step

-- what the pair itself has to have for a step: a delivery finds no event that waits at its end, and what it brings kept; and a
-- datagram has room
abbrev pub IsReady : PairState → GivenStep → Type 0
IsReady p given.Pack = ⊥
IsReady p given.ClientPack = (p.prepared ≡ true) × (length p.up < MAX_DATAGRAMS)
IsReady p (given.Down k) = (p.keeps_all ≡ true) × (p.client.common.receiver.ready ≡ [])
IsReady p (given.Up k room) = p.conn.common.receiver.ready ≡ []
IsReady p (given.Raw bytes room) = p.conn.common.receiver.ready ≡ []
IsReady p other = Unit {0}

-- it stands for some steps after which these drains may be absorbed and these values are all that a packet may need
pub record MayPack (p : PairState) (drains : List Drain) (ranges : ℕ → ℕ → Option (ℤ × ℤ)) : Type 0 where
  pub terms : Terms
  pub steps : List PairStep
  pub stands : StandsFor p terms steps
  pub drained : MayDrain terms (history terms steps).server (server_state terms.config (history terms steps).server) drains
  pub ranged : HasRanges terms (ghost_log (history terms steps).server) ranges

-- ---- what is done

-- for all steps that the old pair stood for, the new one stands for them with this step
abbrev pub Does : PairState → PairStep → PairState → Type 0
Does old step new = (t : Terms) → histories.Does (λ p steps. StandsFor p t steps) old step new

-- for all steps that the pair stood for, the result is what f says of them
abbrev pub Answers : {R : Type 0} → PairState → (Terms → List PairStep → R) → R → Type 0
Answers {R} old f result = (t : Terms) → histories.Answers (λ p steps. StandsFor p t steps) old (f t) result

-- the new pair stands for the same steps
abbrev pub Stays : PairState → PairState → Type 0
Stays old new = (t : Terms) (steps : List PairStep) → StandsFor old t steps → StandsFor new t steps

-- what waits at an end is what the step newly delivers there
abbrev pub HandsDown : PairState → PairStep → PairState → Type 0
HandsDown old step new = (t : Terms) (steps : List PairStep) → StandsFor old t steps →
    client_delivered t (step ∷ steps) ≡ client_delivered t steps ++ new.client.common.receiver.ready

abbrev pub HandsUp : PairState → PairStep → PairState → Type 0
HandsUp old step new = (t : Terms) (steps : List PairStep) → StandsFor old t steps →
    server_delivered t (step ∷ steps) ≡ server_delivered t steps ++ new.conn.common.receiver.ready

abbrev pub Hands : PairState → PairStep → PairState → Type 0
Hands old (Down k) new = HandsDown old (Down k) new
Hands old (Up k room) new = HandsUp old (Up k room) new
Hands old (Raw bytes room) new = HandsUp old (Raw bytes room) new
Hands old other new = Unit {0}

-- the moves that the server lends are those that the step newly accepts, where it took a datagram
abbrev pub LendsMoves : PairState → PairStep → PairState → Type 0
LendsMoves old step new = (t : Terms) (steps : List PairStep) → StandsFor old t steps →
    accepted_in t (step ∷ steps) ≡ accepted_in t steps ++ new.conn.taken

abbrev pub WhereCame : Answer → Type 0 → Type 0
WhereCame (says.Came moves) P = P
WhereCame other P = Unit {0}

abbrev pub Accepts : PairState → PairStep → Answer → PairState → Type 0
Accepts old (Up k room) result new = WhereCame result (LendsMoves old (Up k room) new)
Accepts old (Raw bytes room) result new = WhereCame result (LendsMoves old (Raw bytes room) new)
Accepts old other result new = Unit {0}

-- ---- what is left alone

-- a call at the server's end keeps what its end keeps, and the client's end whole
pub record KeepsAtServer (old new : PairState) : Type 0 where
  pub server : conn.Keeps old.conn new.conn
  pub client : new.client ≡ old.client

-- and the other way
pub record KeepsAtClient (old new : PairState) : Type 0 where
  pub client : client.Keeps old.client new.client
  pub server : new.conn ≡ old.conn

-- a step leaves the other end alone, and one that delivers nothing leaves alone the events that wait at its own
abbrev pub Keeps : PairState → PairStep → PairState → Type 0
Keeps old (ClientPost class v) new = KeepsAtClient old new
Keeps old (Sample m) new = KeepsAtClient old new
Keeps old ClientPack new = KeepsAtClient old new
Keeps old (Down k) new = new.conn ≡ old.conn
Keeps old (Up k room) new = new.client ≡ old.client
Keeps old (Raw bytes room) new = new.client ≡ old.client
Keeps old other new = KeepsAtServer old new

-- a refusal leaves the pair as it was
abbrev pub Unchanged : PairState → Answer → PairState → Type 0
Unchanged old (says.PostRefused fault) new = new ≡ old
Unchanged old (says.MoveRefused fault) new = new ≡ old
Unchanged old (says.ServerRefused fault) new = new ≡ old
Unchanged old (says.ClientRefused fault) new = new ≡ old
Unchanged old (says.NotSent k sent) new = new ≡ old
Unchanged old other new = Unit {0}

-- ---- packs

-- for all steps that the old pair stood for, the new one stands for them with a pack of these drains and reads, which are what
-- its packet needs
pub record Packs (old : PairState) (drains : List Drain) (reads : List Read) (new : PairState) : Type 0 where
  pub stands : Does old (Pack drains reads) new
  pub read : (t : Terms) (steps : List PairStep) → StandsFor old t steps →
      let log = (history t steps).server in IsReadFor t (absorbing drains log) (server_state t.config log) reads
