-- What a packet changed of the copies of the relay's client: the slots whose copies it killed, by rising slot, and the fields that it
-- gave another level, by rising slot and field, each with the value that its copy shows now. It is the same for all spectators.
use Rattle.std.specs.Prelude.{ℕ, ◌&&◌, not, List, [], filter_map, length, if◌then◌else◌, Option, None, Some, is_some}
use Rattle.std.specs.List.{flat_map}
use Rattle.tn_types.specs.declared.limits.TheConstants.{MAX_SLOTS}
use Rattle.quantised_fields.specs.declared.kind.Kind.{Kind}
use Rattle.ghost_model.specs.Words.{upto}
use Rattle.ghost_client.specs.declared.copy.GhostCopy.{GhostCopy}
use Rattle.relay_model.specs.Items.{shown_at, is_changed}
use Rattle.relay_board.specs.declared.board.Change.{Change}

pub record BoardState : Type 0 where
  pub slots : List (Option GhostCopy)
  pub killed : List ℕ
  pub changed : List Change

-- the slot, where it has no copy any more
abbrev pub killed_at : (ℕ → Option GhostCopy) → (ℕ → Option GhostCopy) → ℕ → Option ℕ
killed_at old new slot = if is_some (old slot) && not (is_some (new slot)) then Some slot else None

abbrev pub killed_between : (ℕ → Option GhostCopy) → (ℕ → Option GhostCopy) → List ℕ
killed_between old new = filter_map (killed_at old new) (upto MAX_SLOTS)

-- a field, where it has another level
abbrev pub change_of : List Kind → ℕ → GhostCopy → GhostCopy → ℕ → Option Change
change_of kinds slot old new f =
    if is_changed old new f then Some (record { slot = slot; field = f; value = shown_at kinds new f }) else None

-- of a slot that has a copy still
abbrev pub changes_in : List Kind → ℕ → Option GhostCopy → Option GhostCopy → List Change
changes_in kinds slot (Some old) (Some new) = filter_map (change_of kinds slot old new) (upto (length new.levels))
changes_in kinds slot old new = []

abbrev pub changed_between : List Kind → (ℕ → Option GhostCopy) → (ℕ → Option GhostCopy) → List Change
changed_between kinds old new = flat_map (λ slot. changes_in kinds slot (old slot) (new slot)) (upto MAX_SLOTS)
