use Rattle.std.proofs.Common.{◌≡◌, length}
use Rattle.demo_view.specs.Stands.{terms_of}
use Rattle.demo_view.specs.Calls.{Becomes}
use Rattle.demo_replay.proofs.passing.drop_events.Given as goal

abbrev pub invariant-out : goal.invariant-out
invariant-out l = record {
  stands : Becomes l.fn.viewer (λ packets. packets) l.viewer;
  terms : terms_of l.viewer ≡ terms_of l.fn.viewer;
}

abbrev pub decreases-out : goal.decreases-out
decreases-out l = length l.viewer.events.ready
