use Rattle.std.proofs.Common.{◌≡◌, ◌-◌, length, reverse, take}
use Rattle.std.specs.List.{AllByRecursion}
use Rattle.tn_outside.specs.Totals.{Adds}
use Rattle.match_engine.specs.Match.{IsPlayed}
use Rattle.demo_format.specs.Records.{IsRecord}
use Rattle.demo_record.specs.Recording.{taken_lines}
use Rattle.demo_record.proofs.More.{so_far}
use Rattle.demo_record.proofs.recording.write_records.Given as goal

abbrev pub invariant-lines : goal.invariant-lines
invariant-lines g l = record {
  played : IsPlayed l.game;
  script : l.game.script ≡ l.script;
  written : Adds (g.K.Sink.written l.fn.sink) (g.K.Sink.written l.sink) (so_far l.script l.client l.game.place);
  short : AllByRecursion IsRecord (taken_lines l.script.head l.client (reverse (take l.game.place l.script.body)));
  spared : g.K.Sink.faults l.sink ≡ g.K.Sink.faults l.fn.sink;
}

abbrev pub decreases-lines : goal.decreases-lines
decreases-lines g l = length l.script.body - l.game.place
