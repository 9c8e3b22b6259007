-- What conditions speak of, whatever keeps the periods: how many were shown, which of them are up (shown and not hidden)
-- or alive (shown and not Gone), of which kind each is, how many are up, and whether one of these was shown with control.
use Rattle.std.specs.Prelude.{◌≡◌, ℕ, ◌<◌, Bool, true, false, ◌&&◌, Option, Some, None, count_by}
use Rattle.std.specs.List.{list_any}
use Rattle.tn_types.specs.declared.choices.Op.{Op}
use Rattle.ghost_model.specs.declared.phase.Phase.TheVariants.{Live}
use Rattle.ghost_model.specs.Words.{upto}
use Rattle.ghost_model.specs.Phases.{is_up, is_gone, is_waiting, IsWriteStep, IsSettleStep}
use Rattle.ghost_scope.specs.declared.period.Period.{Period}
use Rattle.ghost_scope.specs.Table.{Table, phase_of, slot_of, entry_of}

abbrev pub show_count : Table → ℕ
show_count p = p.shown

-- n was shown and isn't hidden
pub record IsUp (p : Table) (n : ℕ) : Type 0 where
  pub shown : n < p.shown
  pub up : is_up (phase_of p n) ≡ true

-- n was shown and isn't Gone
pub record IsAlive (p : Table) (n : ℕ) : Type 0 where
  pub shown : n < p.shown
  pub alive : is_gone (phase_of p n) ≡ false

-- no period waits for a slot
abbrev pub NoneWaits : Table → Type 0
NoneWaits p = (n : ℕ) → n < p.shown → is_waiting (phase_of p n) ≡ false

-- the period that holds the slot has the step that this was written, or judged, there (docs/connection.md, "Periods and slots")
abbrev pub MayWrite : Table → ℕ → Op → Type 0
MayWrite p slot op = (n : ℕ) × (slot_of p n ≡ Some slot) × IsWriteStep (phase_of p n) op

abbrev pub MaySettle : Table → ℕ → Op → Type 0
MaySettle p slot op = (n : ℕ) × (slot_of p n ≡ Some slot) × IsSettleStep (phase_of p n) op

-- the period that holds the slot is Live
abbrev pub HoldsLive : Table → ℕ → Type 0
HoldsLive p slot = (n : ℕ) × (slot_of p n ≡ Some slot) × (phase_of p n ≡ Live)

-- the kind that a period was shown with
abbrev pub asked_kind : Option Period → ℕ
asked_kind None = 0
asked_kind (Some e) = e.kind

abbrev pub kind_in : Table → ℕ → ℕ
kind_in p n = asked_kind (entry_of p.entries n)

unfoldable pub up_count : Table → ℕ
up_count p = count_by (λ n. is_up (phase_of p n)) (upto p.shown)

-- it was shown with control
abbrev pub asked_control : Option Period → Bool
asked_control None = false
asked_control (Some e) = e.control

unfoldable pub has_control : Table → Bool
has_control p = list_any (λ n. asked_control (entry_of p.entries n) && is_up (phase_of p n)) (upto p.shown)
