-- When a period may begin, by the masks of the server's end.
use Rattle.std.proofs.Common.{◌≡◌, ℕ, ◌<◌, ◌≤◌, Bool, true, false, List, length, sym, ◌∙◌, arith}
use Rattle.tn_types.specs.declared.limits.TheConstants.{MAX_SHOWN_PERIODS, MAX_SHOWS}
use Rattle.ghost_scope.specs.Shown.{show_count, up_count, has_control}
use Rattle.pair_core.specs.stream_manager.Stands.{ConnState, ConnStandsFor, terms_of}
use Rattle.pair_core.specs.stream_manager.Server.{ServerEvent, ghost_log}
use Rattle.pair_core.specs.Conditions.{MayBeShown}
use Rattle.kept_pair.proofs.Below.conn_packing.Scoped.{shows-told, ups-told, control-told}

module _ (conn : ConnState) (log : List ServerEvent) (s : ConnStandsFor conn log) (kind block level : ℕ) (control : Bool) where
  pub may-be-shown : kind < length conn.masks.kinds → block < 64 → level ≤ 3 → (MAX_SHOWN_PERIODS ≤ up_count conn.masks.periods → ⊥) → show_count conn.masks.periods < MAX_SHOWS
      → (control ≡ true → has_control conn.masks.periods ≡ false) → MayBeShown (terms_of conn) (ghost_log log) kind block level control
  may-be-shown k b l few numbers alone = record {
    ranges = record { kind = k; block = b; level = l };
    few = let told = ups-told conn.masks (ghost_log log) s.masks in omega (arith, told, few);
    numbers = let told = shows-told conn.masks (ghost_log log) s.masks in omega (arith, told, numbers);
    alone = λ c. sym (control-told conn.masks (ghost_log log) s.masks) ∙ alone c;
  }

  pub shown-few : MayBeShown (terms_of conn) (ghost_log log) kind block level control → MAX_SHOWN_PERIODS ≤ up_count conn.masks.periods → ⊥
  shown-few m full = let told = ups-told conn.masks (ghost_log log) s.masks in let few = m.few in omega (arith, told, few, full)

  pub shown-alone : MayBeShown (terms_of conn) (ghost_log log) kind block level control → control ≡ true → has_control conn.masks.periods ≡ false
  shown-alone m c = control-told conn.masks (ghost_log log) s.masks ∙ m.alone c
