-- The values that a client sees are values that were read: which reads of a field the packs of a list of steps made, and what
-- it is for a copy to show levels of them. A pack reads a field for the data packet that it makes then.
use Rattle.std.specs.Prelude.{◌≡◌, ◌⊎◌, refl, ℕ, ℤ, pos, ◌<◌, ◌&&◌, ◌==◌, true, List, [], ◌∷◌, length, slice_get, slice_index_or, Option, Some, None, if◌then◌else◌}
use Rattle.std.specs.List.{list_any}
use Rattle.tn_types.specs.declared.choices.Read.{Read}
use Rattle.quantised_fields.specs.declared.field.FieldSpec.{FieldSpec}
use Rattle.quantised_fields.specs.Levels.{level_of}
use Rattle.ghost_model.specs.Ghosts.{slot, carries, unjudged, is_due}
use Rattle.ghost_model.specs.Legal.{IsUp}
use Rattle.ghost_masks.specs.Plan.{kind_of, fields_of}
use Rattle.ghost_client.specs.declared.copy.GhostCopy.{GhostCopy}
use Rattle.ghost_client.specs.Copies.{copy_of}
use Rattle.stream_manager.specs.Limits.{Terms}
use Rattle.stream_manager.specs.Server.{ghost_log}
use Rattle.stream_manager.specs.Client.{ghosts_came}
use Rattle.pair_core.specs.History.{PairStep, Pack, Hide, history}

-- ---- reads

-- one of these is of this field of period n, and has this value
abbrev pub HasRead : List Read → ℕ → ℕ → ℤ → Type 0
HasRead [] n f v = ⊥
HasRead (r ∷ reads) n f v = ((r.n ≡ n) × (r.field ≡ f) × (r.value ≡ v)) ⊎ HasRead reads n f v

-- a pack read this value of the field
abbrev pub WasRead : List PairStep → ℕ → ℕ → ℤ → Type 0
WasRead [] n f v = ⊥
WasRead (Pack drains reads ∷ steps) n f v = HasRead reads n f v ⊎ WasRead steps n f v
WasRead (_ ∷ steps) n f v = WasRead steps n f v

-- the value of the last of these that is of the field, or else the older one
abbrev pub newest_in : List Read → ℕ → ℕ → Option ℤ → Option ℤ
newest_in [] n f older = older
newest_in (r ∷ reads) n f older = newest_in reads n f (if (r.n == n) && (r.field == f) then Some r.value else older)

-- the value that was read last
abbrev pub last_read : List PairStep → ℕ → ℕ → Option ℤ
last_read [] n f = None
last_read (Pack drains reads ∷ steps) n f = newest_in reads n f (last_read steps n f)
last_read (_ ∷ steps) n f = last_read steps n f

-- ---- copies

-- a pack read a value of the field of period n, a period of this kind, and the level is that of the value
pub record IsReadLevel (t : Terms) (steps : List PairStep) (kind n f level : ℕ) : Type 0 where
  pub spec : FieldSpec
  pub field : slice_get (fields_of t.kinds kind) f ≡ Some spec
  pub value : ℤ
  pub read : WasRead steps n f value
  pub level_is : level ≡ level_of spec value

-- each level of the copy is that of a value that was read of the period which holds the copy's slot
pub record ShowsReads (t : Terms) (steps : List PairStep) (at : ℕ) (copy : GhostCopy) : Type 0 where
  pub period : ℕ
  pub holds : slot (ghost_log (history t steps).server) period ≡ Some at
  pub kind : copy.kind ≡ kind_of (ghost_log (history t steps).server) period
  pub levels : (f : ℕ) → f < length copy.levels → IsReadLevel t steps copy.kind period f (slice_index_or copy.levels f 0)

abbrev pub AllShowReads : Terms → List PairStep → Type 0
AllShowReads t steps = (at : ℕ) (copy : GhostCopy)
    → copy_of (ghosts_came (history t steps).client) at ≡ Some copy → ShowsReads t steps at copy

-- ---- the read that is newest

-- the level is that of the value which was read last of the field of period n, a period of this kind
pub record IsLastLevel (t : Terms) (steps : List PairStep) (kind n f level : ℕ) : Type 0 where
  pub spec : FieldSpec
  pub field : slice_get (fields_of t.kinds kind) f ≡ Some spec
  pub value : ℤ
  pub last : last_read steps n f ≡ Some value
  pub level_is : level ≡ level_of spec value

-- the client has a copy of the period, and the field of it has the level of the value which was read last
pub record IsNewest (t : Terms) (steps : List PairStep) (n f : ℕ) : Type 0 where
  pub at : ℕ
  pub holds : slot (ghost_log (history t steps).server) n ≡ Some at
  pub copy : GhostCopy
  pub here : copy_of (ghosts_came (history t steps).client) at ≡ Some copy
  pub kind : copy.kind ≡ kind_of (ghost_log (history t steps).server) n
  pub fields : length copy.levels ≡ length (fields_of t.kinds copy.kind)
  pub level : f < length copy.levels → IsLastLevel t steps copy.kind n f (slice_index_or copy.levels f 0)

-- a field of a period that is shown and not hidden is due, or an unjudged packet carries it, or the client shows the newest read
abbrev pub ShowNewest : Terms → List PairStep → Type 0
ShowNewest t steps = (n f : ℕ) → IsUp (ghost_log (history t steps).server) n
    → (is_due (ghost_log (history t steps).server) n f ≡ true)
    ⊎ ((list_any (carries n f) (unjudged (ghost_log (history t steps).server)) ≡ true) ⊎ IsNewest t steps n f)

-- ---- examples

-- field 1 of period 4 is read twice, and field 2 once
two_packs : List PairStep
two_packs =
    Pack [] (record { n = 4; field = 1; version = 0; value = pos 9 } ∷ []) ∷ Hide 3
    ∷ Pack []
    (record { n = 4; field = 1; version = 0; value = pos 5 } ∷ record { n = 4; field = 2; version = 0; value = pos 7 } ∷ [])
    ∷ []

the_later_one : last_read two_packs 4 1 ≡ Some (pos 9)
unfolding two_packs
the_later_one = refl

the_only_one : last_read two_packs 4 2 ≡ Some (pos 7)
unfolding two_packs
the_only_one = refl
