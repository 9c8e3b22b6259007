use Rattle.std.proofs.Common.{◌≡◌, map, take}
use Rattle.tribes_ends.specs.Lists.{judged_of}
use Rattle.tribes_ends.proofs.rows.list_verdicts.Given as goal

abbrev pub invariant-verdicts : goal.invariant-verdicts
invariant-verdicts l = take l.at l.place ≡ take l.at (map judged_of l.verdicts)
