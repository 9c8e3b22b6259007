use Rattle.std.proofs.Common.{◌≡◌, drop}
use Rattle.std.specs.List.{filter_map}
use Rattle.race_steps.specs.Asked.{act_asked}
use Rattle.race_steps.proofs.acts.next_line.Given as goal

abbrev pub invariant-loop-k : goal.invariant-loop-k
invariant-loop-k l = filter_map (act_asked l.client) (drop l.k l.lines) ≡ filter_map (act_asked l.client) (drop l.from l.lines)
