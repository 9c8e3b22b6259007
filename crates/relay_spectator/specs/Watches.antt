-- What is held of the slots that a spectator's periods watch, and its tie to what the spectator met.
use Rattle.std.specs.Prelude.{◌≡◌, ℕ, List, slice_index_or, Option, None}
use Rattle.std.specs.Option.{option_map}
use Rattle.own_lists.specs.Own.{OwnWrite}
use Rattle.relay_model.specs.Watching.{Watched}
use Rattle.relay_board.specs.declared.board.Change.{Change}

pub record WatchState : Type 0 where
  pub periods : List (Option ℕ)
  pub shows : ℕ

-- the period that watches a slot
abbrev pub period_at : List (Option ℕ) → ℕ → Option ℕ
period_at periods slot = slice_index_or periods slot None

-- what is written where a field has another level
abbrev pub write_at : List (Option ℕ) → Change → Option OwnWrite
write_at periods change =
    option_map (λ n. record { n = n; field = change.field; value = change.value }) (period_at periods change.slot)

pub record IsWatch (w : WatchState) (x : Watched) : Type 0 where
  pub periods : (slot : ℕ) → period_at w.periods slot ≡ x.period slot
  pub shows : w.shows ≡ x.shows
