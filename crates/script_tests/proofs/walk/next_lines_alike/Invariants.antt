use Rattle.std.proofs.Common.{◌≡◌}
use Rattle.match_engine.specs.Match.{IsPlayed}
use Rattle.script_tests.proofs.walk.next_lines_alike.Given as goal

abbrev pub invariant-lines : goal.invariant-lines
invariant-lines l = record {
  played : IsPlayed l.game;
  script : l.game.script ≡ l.fn.game.script;
}
