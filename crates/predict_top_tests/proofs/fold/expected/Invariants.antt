use Rattle.std.proofs.Common.{◌≡◌}
use Rattle.match_engine.specs.Match.{IsPlayed}
use Rattle.predict_top_tests.proofs.fold.expected.Given as goal

abbrev pub invariant-lines : goal.invariant-lines
invariant-lines l = record {
  played : IsPlayed l.game;
  script : l.game.script ≡ l.script;
}
