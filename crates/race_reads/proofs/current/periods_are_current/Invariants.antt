use Rattle.std.proofs.Common.{ℕ, ◌<◌}
use Rattle.kept_pair.specs.Kept.{terms_in}
use Rattle.race_reads.specs.Legal.{IsCurrentIfUp}
use Rattle.race_reads.proofs.current.periods_are_current.Given as goal

abbrev pub invariant-loop-n : goal.invariant-loop-n
invariant-loop-n l = (k : ℕ) → k < l.n → IsCurrentIfUp l.values l.words l.client (terms_in l.pair) l.pair.steps l.objects k
