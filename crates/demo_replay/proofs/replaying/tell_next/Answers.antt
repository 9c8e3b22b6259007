use Rattle.std.proofs.Common.{◌∙◌, List, ℕ, subst}
use Rattle.tn_outside.specs.Totals.{AddsFront}
use Rattle.demo_view.proofs.Below.stream_manager.Ends.{map_err}
use Rattle.demo_replay.proofs.replaying.tell_next.Goals as goal

pub returns-clause-front : goal.returns-clause-front
returns-clause-front g c =
    let w = g.K.Sink.written c.args.sink.now in
    let w' = g.K.Sink.written c.hand_on.new.sink in
    map_err c.hand_on.result (λ (front : AddsFront w w' c.as_slice.result.now) packets stands.
    subst (λ (l : List ℕ). AddsFront w w' l) (c.as_slice.ensures.value ∙ c.in-Ok.ensures.line packets stands) front) c.hand_on.ensures.front
