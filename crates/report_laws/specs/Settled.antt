-- Which fields of an honest client are settled, and what recovers, in the words of looking back over the client's own list: no bit of a
-- mask stands here but by way of the law that joins the two.
use Rattle.std.specs.Prelude.{ℕ, ℤ, ◌≡◌, ◌⊎◌, ◌↔◌, ◌<◌, Bool, true, false, List, length, Some}
use Rattle.std.specs.List.{list_any}
use Rattle.ghost_model.specs.Ghosts.{slot, carries, unjudged, is_due, is_settled}
use Rattle.ghost_client.specs.declared.copy.GhostCopy.{GhostCopy}
use Rattle.pair_core.specs.ghost_masks.Plan.{kind_of, fields_of}
use Rattle.pair_core.specs.Conditions.{IsHonest}
use Rattle.world_rules.specs.Kinds.{match_kinds}
use Rattle.match_script.specs.declared.types.Script.{Script}
use Rattle.match_script.specs.Ranges.{HasRanges}
use Rattle.match_report.specs.declared.copies.FieldTold.{FieldTold}
use Rattle.own_lists.specs.pair_steps.Steps.{shows_in, is_hidden_in}
use Rattle.own_lists.specs.Own.{OwnItem}
use Rattle.own_lists.specs.Past.{client_terms, after}
use Rattle.match_laws.specs.Laws.{journal_of}
use Rattle.match_laws.specs.Values.{ClientMoment, moment_of, kept_then, ghosts_then, HasValue, HasLevel, IsShownField, IsShownFor}
use Rattle.report_laws.specs.Looking.{newest_value, written_since}

-- the client's own list
abbrev pub own_then : ClientMoment → List OwnItem
own_then m = (after m.head m.past).own m.client

-- the period began, and was not hidden
pub record IsUpThen (m : ClientMoment) (n : ℕ) : Type 0 where
  pub shown : n < shows_in (kept_then m).course.steps
  pub not_hidden : is_hidden_in (kept_then m).course.steps n ≡ false

-- field f of period n was written since the last drain, or since its show
abbrev pub is_written_then : ClientMoment → ℕ → ℕ → Bool
is_written_then m n f = written_since (client_terms m.head m.client) (own_then m) n f

-- ---- settled fields

-- a period that is up holds the slot; it has the field, which is settled there and was not written since
pub record IsSettledAt (m : ClientMoment) (at f : ℕ) : Type 0 where
  pub n : ℕ
  pub up : IsUpThen m n
  pub holds : slot (ghosts_then m) n ≡ Some at
  pub field : f < length (fields_of match_kinds (kind_of (ghosts_then m) n))
  pub settled : is_settled (ghosts_then m) n f ≡ true
  pub unwritten : is_written_then m n f ≡ false

-- a field that a client is shown is told as settled exactly where it is so
abbrev pub MarkedWhereSettled : Type 0
MarkedWhereSettled = (s : Script) (c n : ℕ) → HasRanges s → c < s.head.clients
    → (at f : ℕ) (copy : GhostCopy) (told : FieldTold) → IsShownField (moment_of s c n) at f copy told
    → (told.settled ≡ true) ↔ IsSettledAt (moment_of s c n) at f

-- the field has this value in the world, and it is the newest that the own list tells
pub record HasLast (m : ClientMoment) (n kind f : ℕ) (value : ℤ) : Type 0 where
  pub last : newest_value (own_then m) n f ≡ Some value
  pub has : HasValue m (record { period = n; kind = kind; field = f }) value

-- what is told is shown for such a value, of the period that holds the slot
pub record ShowsLast (m : ClientMoment) (at kind f : ℕ) (told : ℤ) : Type 0 where
  pub n : ℕ
  pub holds : slot (ghosts_then m) n ≡ Some at
  pub value : ℤ
  pub newest : HasLast m n kind f value
  pub shown_for : IsShownFor kind f value told

-- what an honest client is told as settled is shown for it
abbrev pub SettledIsLast : Type 0
SettledIsLast = (s : Script) (c n : ℕ) → HasRanges s → c < s.head.clients → IsHonest (journal_of s c n)
    → (at f : ℕ) (copy : GhostCopy) (told : FieldTold) → IsShownField (moment_of s c n) at f copy told
    → told.settled ≡ true → ShowsLast (moment_of s c n) at copy.kind f told.value

-- ---- recovery

-- the field is due at the server, or was written since, or an unjudged packet carries it, or the copy has the newest value's level
pub record Catches (m : ClientMoment) (n kind f : ℕ) : Type 0 where
  pub value : ℤ
  pub newest : HasLast m n kind f value
  pub caught :
      (is_due (ghosts_then m) n f ≡ true)
      ⊎ ((is_written_then m n f ≡ true)
      ⊎ ((list_any (carries n f) (unjudged (ghosts_then m)) ≡ true)
      ⊎ HasLevel m (record { period = n; kind = kind; field = f }) value))

-- so it is with each field of each period of an honest client that is up
abbrev pub ChangesAreCaught : Type 0
ChangesAreCaught = (s : Script) (c k : ℕ) → HasRanges s → c < s.head.clients → IsHonest (journal_of s c k)
    → let m = moment_of s c k in
    (n f : ℕ) → IsUpThen m n → f < length (fields_of match_kinds (kind_of (ghosts_then m) n))
    → Catches m n (kind_of (ghosts_then m) n) f
