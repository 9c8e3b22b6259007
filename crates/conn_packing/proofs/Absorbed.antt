-- What is absorbed changes nothing but which fields are due.
use Rattle.std.proofs.Common.{◌≡◌, List, [], ◌∷◌, ◌++◌, refl, sym, subst}
use Rattle.std.specs.List.{AllByRecursion}
use Rattle.tn_types.specs.declared.choices.Drain.{Drain}
use Rattle.notify_window.specs.declared.SendState.{SendState}
use Rattle.notify_window.specs.declared.SendState.TheVariants.{Held, Worn, Room}
use Rattle.ghost_model.specs.Ghosts.{scope_log}
use Rattle.stream_manager.specs.declared.config.Config.{Config}
use Rattle.stream_manager.specs.Limits.{Terms}
use Rattle.stream_manager.specs.Server as server
use Rattle.stream_manager.specs.Server.{ServerEvent, server_end, server_state, server_datagrams, ghost_log}
use Rattle.conn_packing.specs.Packs.{absorbing}
use Rattle.conn_packing.specs.Reads.{MayBeDrained, MayDrain}

pub absorbed-end : (drains : List Drain) (log : List ServerEvent) → server_end (absorbing drains log) ≡ server_end log
absorbed-end [] log = refl
absorbed-end (d ∷ drains) log = absorbed-end drains (server.Scoped (server.Absorb d.n d.bits) ∷ log)

pub absorbed-state : (c : Config) (drains : List Drain) (log : List ServerEvent) → server_state c (absorbing drains log) ≡ server_state c log
absorbed-state c [] log = refl
absorbed-state c (d ∷ drains) log = absorbed-state c drains (server.Scoped (server.Absorb d.n d.bits) ∷ log)

pub absorbed-sends : (t : Terms) (drains : List Drain) (log : List ServerEvent) → server_datagrams t (absorbing drains log) ≡ server_datagrams t log
absorbed-sends t [] log = refl
absorbed-sends t (d ∷ drains) log = absorbed-sends t drains (server.Scoped (server.Absorb d.n d.bits) ∷ log)

pub absorbed-scope : (drains : List Drain) (log : List ServerEvent) → scope_log (ghost_log (absorbing drains log)) ≡ scope_log (ghost_log log)
absorbed-scope [] log = refl
absorbed-scope (d ∷ drains) log = absorbed-scope drains (server.Scoped (server.Absorb d.n d.bits) ∷ log)

-- what may be absorbed where anything is
pub all-drained : (t : Terms) (log : List ServerEvent) (state : SendState) (drains : List Drain) → MayDrain t log state drains → AllByRecursion (MayBeDrained t (ghost_log log)) drains
all-drained t log Room drains may = may
all-drained t log Held drains may = subst (AllByRecursion (MayBeDrained t (ghost_log log))) (sym may) tt
all-drained t log Worn drains may = subst (AllByRecursion (MayBeDrained t (ghost_log log))) (sym may) tt

pub absorbing-push : (drains : List Drain) (d : Drain) (log : List ServerEvent) → absorbing (drains ++ d ∷ []) log ≡ server.Scoped (server.Absorb d.n d.bits) ∷ absorbing drains log
absorbing-push [] d log = refl
absorbing-push (x ∷ drains) d log = absorbing-push drains d (server.Scoped (server.Absorb x.n x.bits) ∷ log)
