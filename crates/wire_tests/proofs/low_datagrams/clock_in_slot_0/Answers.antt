use Rattle.std.proofs.Common.{ℕ, List, Option, subst, sym}
use Rattle.wire_format.specs.Ghosts.{held_in, AreOfTable}
use Rattle.wire_tests.proofs.Held.{none-of-table, set-of-table}
use Rattle.wire_tests.proofs.low_datagrams.clock_in_slot_0.Goals as goal

pub returns : goal.returns
returns c kinds l = subst (λ (held : List (Option ℕ)). AreOfTable kinds (held_in held)) (sym c.set.ensures)
    (set-of-table kinds c.new-held.result (subst (λ (held : List (Option ℕ)). AreOfTable kinds (held_in held)) (sym c.new-held.ensures) (none-of-table 256 kinds)) 0 5 l)
