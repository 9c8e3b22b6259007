use Rattle.std.proofs.Common.{arith}
use Rattle.stream_manager.proofs.Ends.{none-counted}
use Rattle.demo_view.proofs.Keeping.{none-seen}
use Rattle.demo_view.proofs.viewer.Viewer.new.Goals as goal

pub of_parts-requires-clause-few : goal.of_parts-requires-clause-few
of_parts-requires-clause-few c = record { horizon_most = omega arith; counted = omega (arith, none-counted c.in_ok-events.events c.in_ok-events.ensures.stands) }

pub of_parts-requires-clause-seen : goal.of_parts-requires-clause-seen
of_parts-requires-clause-seen c = none-seen c.in_ok-copies.copies c.in_ok-copies.ensures.empty
