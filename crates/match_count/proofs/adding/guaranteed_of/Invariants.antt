use Rattle.std.proofs.Common.{◌≡◌, ◌≤◌, take}
use Rattle.std.specs.Prelude.{count_by}
use Rattle.match_report.specs.declared.told.EventTold.{EventTold}
use Rattle.match_count.specs.Counting.{is_guaranteed}
use Rattle.match_count.proofs.adding.guaranteed_of.Given as goal

abbrev pub invariant-events : goal.invariant-events
invariant-events l = record {
  value : l.count ≡ count_by (λ (e : EventTold). is_guaranteed e.class) (take l.event-index l.events);
  few : l.count ≤ l.event-index;
}
