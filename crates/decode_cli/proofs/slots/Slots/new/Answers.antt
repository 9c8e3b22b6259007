use Rattle.std.proofs.Common.{ℕ, List, Option, subst, sym}
use Rattle.world_rules.specs.Kinds.{match_kinds}
use Rattle.wire_format.specs.Ghosts.{held_in, AreOfTable}
use Rattle.decode_cli.proofs.Held.{none_of_table}
use Rattle.decode_cli.proofs.slots.Slots.new.Goals as goal

pub invariant_of-result : goal.invariant_of-result
invariant_of-result c = subst (λ (held : List (Option ℕ)). AreOfTable match_kinds (held_in held)) (sym c.new.ensures) (none_of_table 256)
