use Rattle.std.proofs.Common.{◌≡◌, ◌-◌, length, reverse, take}
use Rattle.tn_outside.specs.Totals.{Adds}
use Rattle.match_laws.specs.Report.{report_so_far}
use Rattle.match_engine.specs.Match.{IsPlayed}
use Rattle.match_engine.proofs.running.write_report.Given as goal

abbrev pub invariant-lines : goal.invariant-lines
invariant-lines g l = record {
  played : IsPlayed l.game;
  script : l.game.script ≡ l.script;
  written : Adds (g.K.Sink.written l.fn.sink) (g.K.Sink.written l.sink)
      (report_so_far l.script.head (reverse (take l.game.place l.script.body)));
  spared : g.K.Sink.faults l.sink ≡ g.K.Sink.faults l.fn.sink;
}

abbrev pub decreases-lines : goal.decreases-lines
decreases-lines g l = length l.script.body - l.game.place
