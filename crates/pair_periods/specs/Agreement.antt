-- A list of periods that says what the steps of a connection say; and which fields of a period there are to be due.
use Rattle.std.specs.Prelude.{◌≡◌, ℕ, ◌<◌, Bool, false, List, length, slice_get, Some, None}
use Rattle.tn_types.specs.declared.choices.Drain.{Drain}
use Rattle.tn_types.specs.declared.choices.Read.{Read}
use Rattle.quantised_fields.specs.Kinds.{table_fault}
use Rattle.ghost_model.specs.Ghosts.{is_due}
use Rattle.ghost_model.specs.Legal.{IsLegal}
use Rattle.ghost_masks.specs.Plan.{kind_of, fields_of, sizes}
use Rattle.stream_manager.specs.Limits.{Terms}
use Rattle.stream_manager.specs.Server.{ServerEvent, ghost_log}
use Rattle.pair_steps.specs.pair_core.History.{PairStep, Pack, history}
use Rattle.pair_steps.specs.pair_core.Conditions.{IsMet}
use Rattle.lane_periods.specs.Periods.{PeriodList}
use Rattle.lane_periods.specs.Views.{is_read}
use Rattle.pair_steps.specs.Steps.{shows_in, up_in, traits_in}

-- as many periods, the same of them up, and each with the kind that it was shown with
pub record Agree (steps : List PairStep) (p : PeriodList) : Type 0 where
  pub count : length p.objects ≡ shows_in steps
  pub up : p.up ≡ up_in steps
  pub kinds : (n : ℕ) → n < shows_in steps → slice_get p.kinds n ≡ Some (traits_in steps n).kind

-- the server's list after the steps, and whether a field is due by then
abbrev pub server_log : Terms → List PairStep → List ServerEvent
server_log t steps = (history t steps).server

abbrev pub is_due_after : Terms → List PairStep → ℕ → ℕ → Bool
is_due_after t steps n field = is_due (ghost_log (server_log t steps)) n field

-- the period has a field of this number
abbrev pub HasField : Terms → List PairStep → ℕ → ℕ → Type 0
HasField t steps n field = field < length (fields_of t.kinds (kind_of (ghost_log (server_log t steps)) n))

-- after legal steps a pack that may be made has these drains and reads, and reads nothing of this field, which the period has
pub record LeavesUnread (t : Terms) (steps : List PairStep) (drains : List Drain) (reads : List Read) (n field : ℕ) : Type 0 where
  pub table : table_fault t.kinds ≡ None
  pub legal : IsLegal (sizes t.kinds) (ghost_log (server_log t steps))
  pub met : IsMet t steps (Pack drains reads)
  pub has : HasField t steps n field
  pub unread : is_read reads n field ≡ false
