use Rattle.std.proofs.Common.{◌≡◌, length, take, drop, reverse}
use Rattle.tn_outside.specs.Totals.{Adds}
use Rattle.relay_script.specs.Ranges.{InOrderFrom}
use Rattle.relay_report.specs.Report.{report_so_far}
use Rattle.relay_node.specs.Running.{IsAt, IsBehind}
use Rattle.relay_node.proofs.running.write_report.Given as goal

abbrev pub invariant-lines : goal.invariant-lines
invariant-lines g l = record {
  at : IsAt l.node l.script l.place (reverse (take l.placed-index l.lines));
  behind : IsBehind (reverse (take l.placed-index l.lines)) l.place;
  order : InOrderFrom l.place (drop l.placed-index l.lines);
  relay : l.node.relay ≡ l.script.client;
  script : l.node.game.script ≡ l.script.script;
  count : length l.node.spectators ≡ l.script.spectators;
  written : Adds (g.K.Sink.written l.fn.sink) (g.K.Sink.written l.sink) (report_so_far l.script (reverse (take l.placed-index l.lines)));
  spared : g.K.Sink.faults l.sink ≡ g.K.Sink.faults l.fn.sink;
}
