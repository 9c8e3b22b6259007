use Rattle.std.proofs.Common.{ℕ, ◌<◌, get_or}
use Rattle.world_sim.specs.Searches.{IsNoTarget}
use Rattle.world_sim.proofs.near.any_target.Given as goal

abbrev pub invariant-loop-n : goal.invariant-loop-n
invariant-loop-n l = (k : ℕ) → k < l.n-index → IsNoTarget l.objects l.o (get_or l.numbers k 0)
