-- What is asked of a list of steps, step by step: payloads in range, conditions met, who is honest, and that a delivery hands over the
-- packet that was sent at its place. The last of these follows from the others (`Delivered`).
use Rattle.std.proofs.Common.{◌≡◌, ℤ, List, [], ◌∷◌, ◌++◌, refl, sym, subst, ◌∙◌}
use Rattle.std.specs.Prelude.{slice_get}
use Rattle.std.specs.List.{AllByRecursion}
use Rattle.tn_types.specs.declared.choices.Drain.{Drain}
use Rattle.tn_types.specs.declared.choices.Read.{Read}
use Rattle.notify_window.specs.declared.SendState.{SendState}
use Rattle.notify_window.specs.declared.SendState.TheVariants.{Room}
use Rattle.ghost_model.specs.Ghosts.{Grant}
use Rattle.conn_packing.specs.stream_manager.ghost_masks.Carried.{all_carried, AreValues}
use Rattle.conn_packing.specs.stream_manager.Limits.{Terms}
use Rattle.conn_packing.specs.stream_manager.Server as server
use Rattle.conn_packing.specs.stream_manager.Server.{ServerEvent, server_end, server_state, server_datagrams, ghost_log, choices_at}
use Rattle.conn_packing.specs.stream_manager.Client.{client_datagrams}
use Rattle.conn_packing.specs.Packs.{absorbing, values_of}
use Rattle.pair_core.specs.History.{PairStep, Down, Up, History, history, client_gets, server_gets}
use Rattle.conn_packing.proofs.Absorbed.{absorbed-state}
use Rattle.conn_packing.specs.Reads.{MayBeDrained, MayDrain, IsReadFor}
use Rattle.pair_core.specs.Conditions.{IsMet, IsHonestStep}
use Rattle.pair_core.specs.Conditions.{StepFits}
use Rattle.pair_laws.specs.Exchange.{server_packets, client_packets, given_down, given_up}

-- a delivery hands over the packet that was sent at its place
abbrev pub IsReadAt : Terms → History → PairStep → Type 0
IsReadAt t h (Down k) = client_gets t (slice_get (server_datagrams t h.server) k) h.client ≡ given_down t.config (slice_get (server_packets h.server) k) h.client
IsReadAt t h (Up k room) = server_gets t.config room (slice_get (client_datagrams t.config h.client) k) h.server ≡ given_up t.config room (slice_get (client_packets h.client) k) h.server
IsReadAt t h other = Unit {0}

pub record IsGoodStep (t : Terms) (steps : List PairStep) (step : PairStep) : Type 0 where
  pub ranges : StepFits step
  pub met : IsMet t steps step
  pub honest : IsHonestStep step
  pub read : IsReadAt t (history t steps) step

abbrev pub AreGood : Terms → List PairStep → Type 0
AreGood t [] = Unit {0}
AreGood t (step ∷ steps) = IsGoodStep t steps step × AreGood t steps

pub good-before : (t : Terms) (later steps : List PairStep) → AreGood t (later ++ steps) → AreGood t steps
good-before t [] steps h = h
good-before t (step ∷ later) steps h = good-before t later steps h.1

-- ---- what a data packet is made with

-- a value for each field that its ghosts carry, in its range
abbrev pub FitNext : Terms → List ServerEvent → List ℤ → Type 0
FitNext t log values = AreValues (all_carried t.kinds (Grant ∷ ghost_log log) (choices_at t log)) values

abbrev pub FitRoom : Terms → List ServerEvent → List ℤ → Type 0
FitRoom t log values = server_state t.config log ≡ Room → FitNext t log values

pub reads-fit : (t : Terms) (log : List ServerEvent) (drains : List Drain) (reads : List Read) → IsReadFor t (absorbing drains log) (server_state t.config log) reads → FitRoom t (absorbing drains log) (values_of reads)
reads-fit t log drains reads read room =
    let state : server_state t.config log ≡ Room = sym (absorbed-state t.config drains log) ∙ room in
    (subst (λ (st : SendState). IsReadFor t (absorbing drains log) st reads) state read).fit
