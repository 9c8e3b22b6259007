use Rattle.std.proofs.Common.{◌≤◌, length, drop}
use Rattle.std.specs.List.{filter_map}
use Rattle.race_steps.specs.Asked.{AreAllOrFirst, act_done, act_asked, acts_done, acts_asked}
use Rattle.race_steps.proofs.Walks.{IsLeft, IsNext}
use Rattle.race_steps.proofs.acts.acts_are.Given as goal

abbrev pub invariant-loop-i : goal.invariant-loop-i
invariant-loop-i l = (l.k ≤ length l.lines)
    × IsNext (act_asked l.client) l.lines l.k
    × IsLeft (AreAllOrFirst l.is_full (acts_done l.steps.list) (acts_asked l.client l.lines)) l.is_full (filter_map act_done (drop l.i l.steps.list)) (filter_map (act_asked l.client) (drop l.k l.lines))
