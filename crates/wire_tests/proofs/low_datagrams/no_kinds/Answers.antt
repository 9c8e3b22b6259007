use Rattle.std.proofs.Common.{ℕ, List, Option, subst, sym}
use Rattle.wire_format.specs.Ghosts.{held_in, AreOfTable}
use Rattle.wire_tests.proofs.Held.{none-of-table}
use Rattle.wire_tests.proofs.low_datagrams.no_kinds.Goals as goal

pub returns : goal.returns
returns c kinds = subst (λ (held : List (Option ℕ)). AreOfTable kinds (held_in held)) (sym c.new.ensures) (none-of-table 256 kinds)
