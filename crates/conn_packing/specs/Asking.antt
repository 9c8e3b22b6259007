-- What the asking for the values of a packet does while the fields are asked for one by one: what their source was asked are the reads
-- of exactly these fields, in their order, and their values are listed.
use Rattle.std.specs.Prelude.{◌≡◌, ℕ, ℤ, ◌≤ℤ◌, Option, IfSome, List, ◌++◌, map}
use Rattle.std.specs.List.{AllByRecursion}
use Rattle.tn_types.specs.declared.choices.Read.{Read}
use Rattle.stream_manager.specs.Server.{ServerEvent}
use Rattle.stream_manager.specs.Stands.{ConnState, ConnStandsFor, terms_of}
use Rattle.conn_packing.specs.Packs.{values_of}
use Rattle.conn_packing.specs.Reads.{field_of, AreReads}

abbrev pub IsInRange : (ℕ → ℕ → Option (ℤ × ℤ)) → Read → Type 0
IsInRange ranges r = IfSome (ranges r.n r.field) (λ x. (x.0 ≤ℤ r.value) × (r.value ≤ℤ x.1))

-- exactly these fields were asked for, in their order, and the values that were read stand behind those that were listed
pub record AreAsked {V : Type 0} (ranges : V → ℕ → ℕ → Option (ℤ × ℤ)) (asks : V → List Read → V → Type 0)
    (before after : V) (fields : List (ℕ × ℕ)) (listed listed' : List ℤ) : Type 0 where
  pub reads : List Read
  pub of_fields : map field_of reads ≡ fields
  pub beside : listed' ≡ listed ++ values_of reads
  pub fit : AllByRecursion (IsInRange (ranges before)) reads
  pub asked : asks before reads after

-- what was read for the next data packet of a server's end, whatever list it stands for
abbrev pub AreReadForNext : ConnState → List Read → Type 0
AreReadForNext conn reads = (log : List ServerEvent) → ConnStandsFor conn log → AreReads (terms_of conn) log reads
