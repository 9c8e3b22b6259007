-- What is said of kinds that make no table.
use Rattle.std.specs.Prelude.{ℕ, List, ◌++◌, codes}
use Rattle.std.specs.Fmt.{decimal}
use Rattle.quantised_fields.specs.declared.table.KindFault.{KindFault}
use Rattle.quantised_fields.specs.declared.table.KindFault.TheVariants.{TooManyKinds, NoKind, TooMany, Empty, BadRange, TooWide}

abbrev pub kind_fault_text : KindFault → List ℕ
kind_fault_text TooManyKinds = codes "TooManyKinds"
kind_fault_text NoKind = codes "NoKind"
kind_fault_text (TooMany kind) = codes "TooMany " ++ decimal kind
kind_fault_text (Empty kind) = codes "Empty " ++ decimal kind
kind_fault_text (BadRange kind field) = codes "BadRange " ++ decimal kind ++ codes " " ++ decimal field
kind_fault_text (TooWide kind) = codes "TooWide " ++ decimal kind
