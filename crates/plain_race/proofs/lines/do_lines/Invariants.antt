use Rattle.std.proofs.Common.{◌≡◌, take}
use Rattle.kept_pair.specs.Kept.{terms_in}
use Rattle.plain_race.specs.Done.{AreStepsOf}
use Rattle.plain_race.proofs.lines.do_lines.Given as goal

abbrev pub invariant-loop-line : goal.invariant-loop-line
invariant-loop-line l = record {
  done : AreStepsOf (terms_in l.fn.pair) l.client (take l.line-index l.lines) l.pair.steps;
  terms : terms_in l.pair ≡ terms_in l.fn.pair;
}
