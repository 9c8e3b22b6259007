use Rattle.std.proofs.Common.{◌≡◌, ◌-◌, length}
use Rattle.match_engine.specs.Match.{IsPlayed}
use Rattle.match_count.specs.Bounds.{AreCounts}
use Rattle.match_count.proofs.counting.count.Given as goal

abbrev pub invariant-lines : goal.invariant-lines
invariant-lines l = record {
  played : IsPlayed l.game;
  script : l.game.script ≡ l.script;
  counted : AreCounts l.script l.game.place l.counts;
}

abbrev pub decreases-lines : goal.decreases-lines
decreases-lines l = length l.script.body - l.game.place
