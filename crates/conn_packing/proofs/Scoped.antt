-- What the lists of a server's end say of its periods, its masks say as well.
use Rattle.std.proofs.Common.{◌≡◌, ℕ, ◌<◌, true, false, List, ◌∙◌, sym, ap, subst, arith}
use Rattle.std.specs.Prelude.{ℤ, Option, Some, slice_get}
use Rattle.tn_types.specs.declared.choices.Drain.{Drain}
use Rattle.stream_manager.specs.Limits.{Terms}
use Rattle.stream_manager.specs.Server.{ServerEvent, ghost_log}
use Rattle.conn_packing.specs.Packs.{absorbing}
use Rattle.conn_packing.specs.Reads.{HasRanges}
use Rattle.conn_packing.proofs.Absorbed.{absorbed-scope}
use Rattle.ghost_model.specs.Phases.{is_up, is_gone}
use Rattle.ghost_model.specs.declared.phase.Phase.{Phase}
use Rattle.ghost_model.specs.Scope.{shows, up_periods, had_control, traits}
use Rattle.ghost_model.specs.Ghosts.{GhostEvent, scope_log}
use Rattle.ghost_model.specs.Scope as scope
use Rattle.ghost_model.specs.Legal as legal
use Rattle.ghost_scope.specs.Table.{phase_of}
use Rattle.ghost_scope.specs.Shown.{show_count, up_count, has_control, IsUp, kind_in}
use Rattle.ghost_scope.proofs.Counts.{up_counted, control_counted, up_entries, control_entries}
use Rattle.ghost_scope.proofs.Told.{kind_told}
use Rattle.stream_manager.specs.ghost_masks.Plan.{kind_of, fields_of}
use Rattle.stream_manager.specs.ghost_masks.StandsFor.{MasksState, StandsFor}

pub up-alive : (p : Phase) → is_up p ≡ true → is_gone p ≡ false
up-alive p h = grind arith

module _ (m : MasksState) (log : List GhostEvent) (s : StandsFor m log) where
  pub shows-told : show_count m.periods ≡ shows (scope_log log)
  shows-told = s.periods.shown

  pub ups-told : up_count m.periods ≡ up_periods (scope_log log)
  ups-told = sym (up_entries m.periods s.ordered) ∙ up_counted m.periods s.ordered (scope_log log) s.periods

  pub control-told : has_control m.periods ≡ had_control (scope_log log)
  control-told = sym (control_entries m.periods s.ordered) ∙ control_counted m.periods s.ordered (scope_log log) s.periods

  pub up-from : (n : ℕ) → legal.IsUp log n → IsUp m.periods n
  up-from n up = record { shown = omega (arith, up.shown, s.periods.shown); up = ap is_up (s.periods.phases n) ∙ up.up }

  pub up-to : (n : ℕ) → IsUp m.periods n → legal.IsUp log n
  up-to n up = record { shown = omega (arith, up.shown, s.periods.shown); up = ap is_up (sym (s.periods.phases n)) ∙ up.up }

  pub kind-here : (n : ℕ) → IsUp m.periods n → kind_in m.periods n ≡ kind_of log n
  kind-here n up = kind_told m.periods s.ordered n (scope_log log) s.periods up.shown (up-alive (phase_of m.periods n) up.up)

-- what is absorbed hides nothing
pub absorbed-up : (drains : List Drain) (log : List ServerEvent) (n : ℕ) → legal.IsUp (ghost_log log) n → legal.IsUp (ghost_log (absorbing drains log)) n
absorbed-up drains log n up = record {
  shown = subst (λ l. n < shows l) (sym (absorbed-scope drains log)) up.shown;
  up = subst (λ l. is_up (scope.phase l n) ≡ true) (sym (absorbed-scope drains log)) up.up;
}

pub absorbed-kind : (drains : List Drain) (log : List ServerEvent) (n : ℕ) → kind_of (ghost_log (absorbing drains log)) n ≡ kind_of (ghost_log log) n
absorbed-kind drains log n = ap (λ l. (traits l n).kind) (absorbed-scope drains log)

pub absorbed-down : (drains : List Drain) (log : List ServerEvent) (n : ℕ) → legal.IsUp (ghost_log (absorbing drains log)) n → legal.IsUp (ghost_log log) n
absorbed-down drains log n up = record {
  shown = subst (λ l. n < shows l) (absorbed-scope drains log) up.shown;
  up = subst (λ l. is_up (scope.phase l n) ≡ true) (absorbed-scope drains log) up.up;
}

-- nor does it take a field from a source of values
pub absorbed-ranges : (t : Terms) (drains : List Drain) (log : List ServerEvent) (ranges : ℕ → ℕ → Option (ℤ × ℤ)) → HasRanges t (ghost_log log) ranges → HasRanges t (ghost_log (absorbing drains log)) ranges
absorbed-ranges t drains log ranges has n f spec up is =
    has n f spec (absorbed-down drains log n up) (subst (λ k. slice_get (fields_of t.kinds k) f ≡ Some spec) (absorbed-kind drains log n) is)
