use Rattle.std.proofs.Common.{◌≡◌, ◌≤◌, take}
use Rattle.std.specs.Prelude.{count_by}
use Rattle.race_steps.specs.Asked.{is_pack_line}
use Rattle.race_steps.proofs.packs.packs_asked.Given as goal

abbrev pub invariant-loop-line : goal.invariant-loop-line
invariant-loop-line l = (l.count ≤ l.line-index) × (l.count ≡ count_by (is_pack_line l.client) (take l.line-index l.lines))
