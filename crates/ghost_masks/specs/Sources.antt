-- What a plan is made from: the periods, the kinds, the rows of slots and the number of packets, as one list of what happened left them.
use Rattle.std.specs.Prelude.{◌≡◌, ℕ, ◌≤◌, List, length, Some, None, slice_get}
use Rattle.tn_types.specs.declared.limits.TheConstants.{MAX_FIELDS}
use Rattle.quantised_fields.specs.declared.kind.Kind.{Kind}
use Rattle.quantised_fields.specs.Kinds.{table_fault}
use Rattle.ghost_model.specs.Scope.{traits}
use Rattle.ghost_model.specs.Ghosts.{GhostEvent, scope_log, packets, phase, slot}
use Rattle.ghost_model.specs.Legal.{IsLegal}
use Rattle.ghost_scope.specs.declared.period.Period.{Period}
use Rattle.ghost_scope.specs.Table.{Table}
use Rattle.ghost_scope.specs.StandsFor.{StandsFor, traits_in}
use Rattle.ghost_rows.specs.Kept.{Row, row_at, HaveRows}
use Rattle.ghost_masks.specs.Plan.{fields_of, whole_mask, weight_in, sizes}
use Rattle.ghost_masks.specs.Work.{AreMarked}

-- the periods and the rows say what follows from a list that is legal for these kinds
pub record ComeFrom (p : Table) (kinds : List Kind) (kept : List Row) (log : List GhostEvent) : Type 0 where
  pub periods : StandsFor p (scope_log log)
  pub rows : HaveRows log kept
  pub legal : IsLegal (sizes kinds) log

-- so many packets were sent as well, and the kinds are those of a table
pub record GatherFrom (p : Table) (kinds : List Kind) (kept : List Row) (count : ℕ) (log : List GhostEvent) : Type 0 where
  pub come : ComeFrom p kinds kept log
  pub sent : count ≡ length (packets log)
  pub table : table_fault kinds ≡ None

-- the slots of Live periods are listed as having work exactly where a field is due as well
pub record PlanFrom (p : Table) (kinds : List Kind) (kept : List Row) (count : ℕ) (log : List GhostEvent) : Type 0 where
  pub gathered : GatherFrom p kinds kept count log
  pub marks : AreMarked log p.work

-- the same of one entry: it says of its period what follows from the list, and so do the rows
pub record EntryFrom (e : Period) (kinds : List Kind) (kept : List Row) (log : List GhostEvent) : Type 0 where
  pub here : phase log e.n ≡ e.phase
  pub told : traits (scope_log log) e.n ≡ traits_in e
  pub holds : slot log e.n ≡ Some e.slot
  pub rows : HaveRows log kept
  pub legal : IsLegal (sizes kinds) log

-- one mask has all fields of the entry's kind, and the other those that the row of its slot says are due
pub record AreMasks (e : Period) (kinds : List Kind) (kept : List Row) (whole due : ℕ) : Type 0 where
  pub all : whole ≡ whole_mask kinds e.kind
  pub few : length (fields_of kinds e.kind) ≤ MAX_FIELDS
  pub owed : due ≡ (row_at kept e.slot).due

-- the weight is that of the entry's kind, and so many packets were sent at the last turn that the row of its slot has
pub record AreRates (e : Period) (kinds : List Kind) (kept : List Row) (weight turn : ℕ) : Type 0 where
  pub weighs : weight ≡ weight_in (slice_get kinds e.kind)
  pub turned : turn ≡ (row_at kept e.slot).turn
