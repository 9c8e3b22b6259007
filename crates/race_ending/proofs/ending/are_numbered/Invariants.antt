use Rattle.std.proofs.Common.{◌≡◌, ◌<◌, ℕ, get_or}
use Rattle.dirty_lanes.specs.declared.view.PackView.{PackView}
use Rattle.race_ending.proofs.ending.are_numbered.Given as goal

abbrev pub invariant-loop-i : goal.invariant-loop-i
invariant-loop-i g l = (k : ℕ) (d : PackView) → k < l.i → (get_or l.seats k d).client ≡ k
