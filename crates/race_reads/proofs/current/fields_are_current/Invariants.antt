use Rattle.std.proofs.Common.{ℕ, ◌<◌, None}
use Rattle.std.specs.Prelude.{slice_index_or}
use Rattle.tn_types.specs.BitWords.{has_bit}
use Rattle.race_reads.specs.Reads.{IsCurrent}
use Rattle.race_reads.specs.Tables.{place_in}
use Rattle.race_reads.proofs.current.fields_are_current.Given as goal

abbrev pub invariant-loop-f : goal.invariant-loop-f
invariant-loop-f l = (k : ℕ) → k < l.f → IsCurrent l.values l.word (has_bit l.due k) (slice_index_or l.last (place_in l.n k) None) l.object k
