-- What an honest client is shown of the world, at every line of a script. Each field of each copy shows a value that the object
-- had at or after the show of the copy's period, and a settled field shows the newest. And no change is forgotten: each field of
-- each shown and not hidden period is due, or was written and not drained, or is on its way, or the copy has its newest value.
use Rattle.std.specs.Prelude.{◌≡◌, ◌⊎◌, refl, ℕ, ℤ, pos, ◌<◌, true, List, [], ◌∷◌, ◌++◌, length, Option, Some, None, slice_get}
use Rattle.std.specs.List.{All, list_any}
use Rattle.tn_types.specs.BitWords.{has_bit}
use Rattle.quantised_fields.specs.declared.field.FieldSpec.{FieldSpec}
use Rattle.quantised_fields.specs.Levels.{level_of, shown_of}
use Rattle.ghost_model.specs.Ghosts.{GhostEvent, slot, carries, unjudged, is_due}
use Rattle.ghost_masks.specs.Plan.{kind_of, fields_of}
use Rattle.ghost_client.specs.declared.copy.GhostCopy.{GhostCopy}
use Rattle.ghost_client.specs.Copies.{copy_of}
use Rattle.stream_manager.specs.Server.{ghost_log}
use Rattle.stream_manager.specs.Client.{ghosts_came}
use Rattle.client_seat.specs.pair_core.History.{PairStep, History, history}
use Rattle.client_seat.specs.pair_core.Conditions.{IsHonest}
use Rattle.match_script.specs.declared.types.BodyLine.{BodyLine}
use Rattle.match_script.specs.declared.types.BodyLine.TheVariants.{Tick, Scan}
use Rattle.match_script.specs.declared.types.Head.{Head}
use Rattle.match_script.specs.declared.types.Script.{Script}
use Rattle.match_script.specs.Ranges.{HasRanges}
use Rattle.match_report.specs.declared.copies.FieldTold.{FieldTold}
use Rattle.world_rules.specs.Clocks.{clock_next}
use Rattle.world_rules.specs.Kinds.{match_kinds}
use Rattle.world_sim.specs.Worlds.{next, kind_at, value_at}
use Rattle.world_scope.specs.Scope.{visible_list}
use Rattle.client_scope.specs.declared.period.ShownPeriod.{ShownPeriod}
use Rattle.client_scope.specs.Scans.{periods, shown}
use Rattle.client_seat.specs.own_lists.Kept.{Kept, undrained}
use Rattle.client_seat.specs.own_lists.Past.{client_terms, kept_by, after}
use Rattle.client_seat.specs.Told.{holder_at, field_told}
use Rattle.match_laws.specs.Laws.{first, journal_of}

-- ---- when and where

-- a moment of a match, for one client: the header, the lines that were done, the newest first, and the client
pub record ClientMoment : Type 0 where
  pub head : Head
  pub past : List BodyLine
  pub client : ℕ

-- after the first n lines of a script
abbrev pub moment_of : Script → ℕ → ℕ → ClientMoment
moment_of s c n = record { head = s.head; past = first n s; client = c }

-- a field of one of the client's periods, whose object is of this kind
pub record Spot : Type 0 where
  pub period : ℕ
  pub kind : ℕ
  pub field : ℕ

-- ---- what an object has

-- the period has begun; its object is of this kind, and the field has this value in the world
pub record HasValue (m : ClientMoment) (s : Spot) (value : ℤ) : Type 0 where
  pub object : ℕ
  pub begun : slice_get (periods ((after m.head m.past).scans m.client)) s.period ≡ Some object
  pub kind_is : kind_at (after m.head m.past).world object ≡ Some s.kind
  pub value_is : value_at (after m.head m.past).world object s.field ≡ Some value

-- it was so after some of these lines: at the show of the period, or later
pub record HadValue (m : ClientMoment) (s : Spot) (value : ℤ) : Type 0 where
  pub later : List BodyLine
  pub earlier : List BodyLine
  pub whole : later ++ earlier ≡ m.past
  pub there : HasValue (record { head = m.head; past = earlier; client = m.client }) s value

-- ---- what a client is shown

-- the steps of a client's connection
abbrev pub steps_of : Head → List BodyLine → ℕ → List PairStep
steps_of head past c = (kept_by head (after head past) c).course.steps

-- what the client's own list leaves
abbrev pub kept_then : ClientMoment → Kept
kept_then m = kept_by m.head (after m.head m.past) m.client

-- what happened at both ends of the client's connection
abbrev pub ends_then : ClientMoment → History
ends_then m = history (client_terms m.head m.client) (kept_then m).course.steps

-- what happened to the connection's ghosts, at the server
abbrev pub ghosts_then : ClientMoment → List GhostEvent
ghosts_then m = ghost_log (ends_then m).server

-- the client's copy in a slot
abbrev pub copy_at : ClientMoment → ℕ → Option GhostCopy
copy_at m at = copy_of (ghosts_came (ends_then m).client) at

-- what `show` tells of a field of the copy in a slot
abbrev pub shown_at : ClientMoment → ℕ → GhostCopy → ℕ → Option FieldTold
shown_at m at copy f =
    let t = client_terms m.head m.client in
    let steps = (kept_then m).course.steps in
    field_told t steps (holder_at t steps (undrained (kept_then m)) at) copy f

-- a field that the client is shown
pub record IsShownField (m : ClientMoment) (at f : ℕ) (copy : GhostCopy) (told : FieldTold) : Type 0 where
  pub here : copy_at m at ≡ Some copy
  pub shown : shown_at m at copy f ≡ Some told

-- one value is shown for the other: that of the nearest level, in the range and the bits of this field of the kind
pub record IsShownFor (kind f : ℕ) (value told : ℤ) : Type 0 where
  pub spec : FieldSpec
  pub field : slice_get (fields_of match_kinds kind) f ≡ Some spec
  pub level : told ≡ shown_of spec (level_of spec value)

-- what is told is shown for a value that the object had, at or after the show of the period that holds the copy's slot at the server
pub record ShowsHad (m : ClientMoment) (at kind f : ℕ) (told : ℤ) : Type 0 where
  pub n : ℕ
  pub holds : slot (ghosts_then m) n ≡ Some at
  pub value : ℤ
  pub had : HadValue m (record { period = n; kind = kind; field = f }) value
  pub shown_for : IsShownFor kind f value told

-- what is told is shown for the value that this object has now
pub record ShowsNewest (m : ClientMoment) (at kind f : ℕ) (told : ℤ) : Type 0 where
  pub n : ℕ
  pub holds : slot (ghosts_then m) n ≡ Some at
  pub value : ℤ
  pub has : HasValue m (record { period = n; kind = kind; field = f }) value
  pub shown_for : IsShownFor kind f value told

-- ---- recovery

-- the client's copy of the period has the level of the value
pub record HasLevel (m : ClientMoment) (s : Spot) (value : ℤ) : Type 0 where
  pub at : ℕ
  pub holds : slot (ghosts_then m) s.period ≡ Some at
  pub copy : GhostCopy
  pub here : copy_at m at ≡ Some copy
  pub same_kind : copy.kind ≡ s.kind
  pub spec : FieldSpec
  pub field : slice_get (fields_of match_kinds s.kind) s.field ≡ Some spec
  pub level : slice_get copy.levels s.field ≡ Some (level_of spec value)

-- the field is due at the server, or was written and not drained, or an unjudged packet carries it, or the value is there
abbrev pub IsRecovered : ClientMoment → Spot → ℤ → Type 0
IsRecovered m s value =
    (is_due (ghosts_then m) s.period s.field ≡ true)
    ⊎ ((has_bit ((kept_then m).written s.period) s.field ≡ true)
    ⊎ ((list_any (carries s.period s.field) (unjudged (ghosts_then m)) ≡ true) ⊎ HasLevel m s value))

-- so it is with the value that the period's object has now
pub record Recovers (m : ClientMoment) (s : Spot) : Type 0 where
  pub value : ℤ
  pub has : HasValue m s value
  pub recovered : IsRecovered m s value

-- so it is with each field of the kind that the period was shown with
abbrev pub FieldsRecover : ClientMoment → ℕ → ℕ → Type 0
FieldsRecover m n kind =
    (f : ℕ) → f < length (fields_of match_kinds kind) → Recovers m (record { period = n; kind = kind; field = f })

-- so it is with each period that is shown and not hidden
abbrev pub AllRecover : ClientMoment → Type 0
AllRecover m =
    All (λ (p : ShownPeriod). FieldsRecover m p.n (kind_of (ghosts_then m) p.n)) (shown ((after m.head m.past).scans m.client))

-- ---- the laws

-- every field that a copy of an honest client shows, at every line, is shown for a value that the object had
abbrev pub CopiesShowValues : Type 0
CopiesShowValues =
    (s : Script) (c n : ℕ) → HasRanges s → c < s.head.clients → IsHonest (journal_of s c n)
    → (at f : ℕ) (copy : GhostCopy) (told : FieldTold) → IsShownField (moment_of s c n) at f copy told
    → ShowsHad (moment_of s c n) at copy.kind f told.value

-- and a settled one for the value that it has at that line
abbrev pub SettledIsNewest : Type 0
SettledIsNewest =
    (s : Script) (c n : ℕ) → HasRanges s → c < s.head.clients → IsHonest (journal_of s c n)
    → (at f : ℕ) (copy : GhostCopy) (told : FieldTold) → IsShownField (moment_of s c n) at f copy told
    → told.settled ≡ true → ShowsNewest (moment_of s c n) at copy.kind f told.value

-- what holds of each honest client after the first lines of a script, however many
abbrev pub AtEachLine : (Head → List BodyLine → ℕ → Type 0) → Type 0
AtEachLine law = (s : Script) (c n : ℕ) → HasRanges s → c < s.head.clients → IsHonest (journal_of s c n) → law s.head (first n s) c

-- and no change is forgotten
abbrev pub ChangesRecover : Type 0
ChangesRecover = AtEachLine (λ head past c. AllRecover (record { head = head; past = past; client = c }))

-- ---- an example: one client and a clock, which every client sees. It is scanned, and a tick comes

clock_alone : Head
clock_alone = record {
  version = 1;
  seed = 1;
  clients = 1;
  life = 100;
  size = 128;
  radius = 1000;
  blocks = [];
  setup = record {
    clients = 1;
    radius = 1000;
    spawns = record { kind = 5; block = 0; team = 0; x = pos 0; y = pos 0; owner = None } ∷ [];
  };
}

after_one_tick : ClientMoment
after_one_tick = record { head = clock_alone; past = Tick ∷ Scan 0 ∷ []; client = 0 }

-- its first field counts ticks
ticks_counted : Spot
ticks_counted = record { period = 0; kind = 5; field = 0 }

-- it is 1 now
counts_one : HasValue after_one_tick ticks_counted (pos 1)
unfolding clock_alone after_one_tick ticks_counted visible_list next clock_next
counts_one = record { object = 0; begun = refl; kind_is = refl; value_is = refl }

-- and was 0 at the show of period 0
counted_none : HadValue after_one_tick ticks_counted (pos 0)
unfolding clock_alone after_one_tick ticks_counted visible_list
counted_none = record {
  later = Tick ∷ [];
  earlier = Scan 0 ∷ [];
  whole = refl;
  there = record { object = 0; begun = refl; kind_is = refl; value_is = refl };
}

-- a drone's place has 12 bits: the client is shown 992 for 1000
nearly : IsShownFor 3 0 (pos 1000) (pos 992)
nearly = record { spec = record { lo = pos 0; hi = pos 65535; bits = 12 }; field = refl; level = refl }
