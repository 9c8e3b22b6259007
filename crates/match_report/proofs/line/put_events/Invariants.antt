use Rattle.std.proofs.Common.{◌≡◌, ◌++◌, take}
use Rattle.std.specs.List.{flat_map}
use Rattle.match_report.specs.Text.{event_word}
use Rattle.match_report.proofs.line.put_events.Given as goal

abbrev pub invariant-loop-event : goal.invariant-loop-event
invariant-loop-event l = record {
  line : l.text.line ≡ l.fn.text.line ++ flat_map event_word (take l.event-index l.events);
  before : l.text.before ≡ l.fn.text.before;
}
