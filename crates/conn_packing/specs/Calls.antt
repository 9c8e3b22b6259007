-- What a pack of a server's end needs, and what it does to the lists that the end stands for.
use Rattle.std.specs.Prelude.{◌≡◌, ℕ, ℤ, Option, IsSome, List}
use Rattle.tn_types.specs.declared.choices.Drain.{Drain}
use Rattle.tn_types.specs.declared.choices.Read.{Read}
use Rattle.notify_window.specs.declared.SendState.{SendState}
use Rattle.notify_window.specs.declared.SendState.TheVariants.{Held, Worn, Room}
use Rattle.notify_window.specs.State.{send_state}
use Rattle.stream_manager.specs.ghost_masks.StandsFor.{FitPlan}
use Rattle.stream_manager.specs.ConnCalls.{Answers, Becomes, Keeps}
use Rattle.stream_manager.specs.Limits.{Terms}
use Rattle.stream_manager.specs.Server.{ServerEvent, server_state, ghost_log, with_plan}
use Rattle.stream_manager.specs.Stands.{ConnState, ConnStandsFor, terms_of}
use Rattle.conn_packing.specs.declared.made.Made.{Made}
use Rattle.conn_packing.specs.Packs.{absorbing, values_of, server_packs, datagram_of, made_of}
use Rattle.conn_packing.specs.Reads.{MayDrain, IsReadFor, HasRanges}

-- the end stands for some list after which these drains may be absorbed and these values are all that a packet may need
pub record MayPackEnd (conn : ConnState) (drains : List Drain) (ranges : ℕ → ℕ → Option (ℤ × ℤ)) : Type 0 where
  pub log : List ServerEvent
  pub stands : ConnStandsFor conn log
  pub drained : MayDrain (terms_of conn) log (server_state conn.common.config log) drains
  pub ranged : HasRanges (terms_of conn) (ghost_log log) ranges

-- for all lists that the old end stood for, the new one stands for them with a pack of these drains and reads, which are what its
-- packet needs; its datagram has these bytes, and the answer says which kind it is
pub record PacksEnd (old : ConnState) (drains : List Drain) (reads : List Read) (result : Made) (bytes : List ℕ) (new : ConnState) : Type 0 where
  pub stands : Becomes old (server_packs (terms_of old) drains reads) new
  pub read : (log : List ServerEvent) → ConnStandsFor old log
      → IsReadFor (terms_of old) (absorbing drains log) (server_state old.common.config log) reads
  pub sent : Answers old (datagram_of (terms_of old) drains reads) bytes
  pub made : Answers old (λ log. made_of (server_state old.common.config log) old.common.config.life bytes) result
  pub keeps : Keeps old new

-- ---- before the datagram is written

-- behind what a pack absorbs and plans
abbrev pub begun_onto : Terms → List ServerEvent → SendState → List ServerEvent
begun_onto t log Held = log
begun_onto t log Worn = log
begun_onto t log Room = with_plan t log

-- the end may make what it is in the state for, a data packet with these values
abbrev pub IsReadyTo : SendState → ConnState → List ℤ → Type 0
IsReadyTo Held conn values = send_state conn.common.window ≡ Held
IsReadyTo Worn conn values = Unit {0}
IsReadyTo Room conn values = IsSome conn.masks.plan × FitPlan conn.masks values

-- the end has absorbed these drains, and planned for these reads where it makes a data packet
pub record Begins (old : ConnState) (drains : List Drain) (reads : List Read) (state : SendState) (new : ConnState) : Type 0 where
  pub stands : Becomes old (λ log. begun_onto (terms_of old) (absorbing drains log) state) new
  pub told : Answers old (server_state old.common.config) state
  pub read : (log : List ServerEvent) → ConnStandsFor old log → IsReadFor (terms_of old) (absorbing drains log) state reads
  pub ready : IsReadyTo state new (values_of reads)
  pub keeps : Keeps old new
