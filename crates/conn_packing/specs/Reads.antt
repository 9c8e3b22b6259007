-- When a server's end may pack, by what happened at it. A period is drained only while it is shown and not hidden. A pack that
-- makes a data packet reads exactly the fields that the packet carries, in the order of its ghosts and by rising field, each in
-- its range; a pack that makes a ping or nothing drains and reads nothing.
use Rattle.std.specs.Prelude.{◌≡◌, refl, ℕ, ℤ, Option, Some, List, [], ◌∷◌, ◌++◌, map, filter, slice_get}
use Rattle.std.specs.List.{AllByRecursion}
use Rattle.tn_types.specs.declared.limits.TheConstants.{MAX_FIELDS}
use Rattle.tn_types.specs.declared.choices.Choice.{Choice}
use Rattle.tn_types.specs.declared.choices.Drain.{Drain}
use Rattle.tn_types.specs.declared.choices.Read.{Read}
use Rattle.tn_types.specs.declared.choices.Op.TheVariants.{Kill, Update}
use Rattle.tn_types.specs.BitWords.{has_bit}
use Rattle.quantised_fields.specs.declared.field.FieldSpec.{FieldSpec}
use Rattle.notify_window.specs.declared.SendState.{SendState}
use Rattle.notify_window.specs.declared.SendState.TheVariants.{Held, Worn, Room}
use Rattle.ghost_model.specs.Words.{upto}
use Rattle.ghost_model.specs.Ghosts.{GhostEvent, Grant}
use Rattle.ghost_model.specs.Legal.{IsUp, AreFields}
use Rattle.stream_manager.specs.ghost_masks.Plan.{sizes, kind_of, fields_of}
use Rattle.stream_manager.specs.ghost_masks.Carried.{all_carried, AreValues}
use Rattle.stream_manager.specs.Limits.{Terms}
use Rattle.stream_manager.specs.Server.{ServerEvent, ghost_log, choices_at}
use Rattle.conn_packing.specs.Packs.{values_of}

-- the period is up, and the bits are of fields of its kind
pub record MayBeDrained (t : Terms) (log : List GhostEvent) (d : Drain) : Type 0 where
  pub up : IsUp log d.n
  pub fields : AreFields (sizes t.kinds) log d.n d.bits

-- the fields that a ghost item carries, rising: its mask has a bit for each
abbrev pub fields_in : ℕ → List ℕ
fields_in mask = filter (has_bit mask) (upto MAX_FIELDS)

abbrev pub asked_by : Choice → List (ℕ × ℕ)
asked_by c = map (λ f. (c.n, f)) (fields_in c.mask)

-- the fields that the items carry, each with its period, item by item
abbrev pub asked_by_all : List Choice → List (ℕ × ℕ)
asked_by_all [] = []
asked_by_all (c ∷ cs) = asked_by c ++ asked_by_all cs

abbrev pub field_of : Read → ℕ × ℕ
field_of r = (r.n, r.field)

-- what was read for the next data packet: each field that its ghosts carry, once and in their order, in its range
pub record AreReads (t : Terms) (log : List ServerEvent) (reads : List Read) : Type 0 where
  pub asked : map field_of reads ≡ asked_by_all (choices_at t log)
  pub fit : AreValues (all_carried t.kinds (Grant ∷ ghost_log log) (choices_at t log)) (values_of reads)

-- what a pack drains and reads, by what it makes
abbrev pub MayDrain : Terms → List ServerEvent → SendState → List Drain → Type 0
MayDrain t log Room drains = AllByRecursion (MayBeDrained t (ghost_log log)) drains
MayDrain t log Held drains = drains ≡ []
MayDrain t log Worn drains = drains ≡ []

abbrev pub IsReadFor : Terms → List ServerEvent → SendState → List Read → Type 0
IsReadFor t log Room reads = AreReads t log reads
IsReadFor t log Held reads = reads ≡ []
IsReadFor t log Worn reads = reads ≡ []

-- a source of values gives each field of each period that is up, in the field's range
abbrev pub HasRanges : Terms → List GhostEvent → (ℕ → ℕ → Option (ℤ × ℤ)) → Type 0
HasRanges t log ranges = (n f : ℕ) (spec : FieldSpec) → IsUp log n → slice_get (fields_of t.kinds (kind_of log n)) f ≡ Some spec
    → ranges n f ≡ Some (spec.lo, spec.hi)

-- ---- examples

-- fields 0 and 2
two_fields : fields_in 5 ≡ 0 ∷ 2 ∷ []
unfolding upto
two_fields = refl

-- a kill asks for nothing, and an update of period 4 for the fields of its mask
asked_for_two : asked_by_all (record { n = 7; slot = 1; op = Kill; mask = 0 } ∷ record { n = 4; slot = 0; op = Update; mask = 6 } ∷ [])
    ≡ (4, 1) ∷ (4, 2) ∷ []
unfolding upto
asked_for_two = refl
