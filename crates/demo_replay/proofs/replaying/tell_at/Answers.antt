use Rattle.std.proofs.Common.{◌∙◌, List, ℕ, take, ap, subst}
use Rattle.std.specs.Prelude.{codes}
use Rattle.quantised_fields.specs.declared.kind.Kind.{Kind}
use Rattle.tn_outside.specs.Totals.{AddsFront}
use Rattle.demo_format.specs.Records.{records_of}
use Rattle.demo_view.specs.Viewing.{ViewTerms, viewed}
use Rattle.demo_view.proofs.Below.stream_manager.Ends.{map_err}
use Rattle.demo_replay.specs.Replaying.{terms_in}
use Rattle.demo_replay.specs.Walking.{DemoState, IsViewerAfter}
use Rattle.demo_replay.specs.Writing.{TellsShown}
use Rattle.demo_replay.proofs.Walking.{first-viewer}
use Rattle.demo_replay.proofs.Written.{same-shown}
use Rattle.demo_replay.proofs.replaying.tell_at.Goals as goal

pub returns-clause-front : goal.returns-clause-front
returns-clause-front g c =
    let head = c.args.head.now in
    let d : DemoState = record { head = head; records = records_of c.args.body.now } in
    let w = g.K.Sink.written c.args.sink.now in
    let w' = g.K.Sink.written c.tell_end.new.sink in
    let first : IsViewerAfter d 0 c.in-Ok.viewer = first-viewer d c.in-Ok.viewer c.in-Ok.ensures.stands
    (c.in-Ok.ensures.terms ∙ ap (λ (kinds : List Kind). let t : ViewTerms = record { client = head.client; version = head.version; kinds = kinds } in t) c.match_kinds.ensures)
    c.in-Ok.ensures.empty in
    let after : IsViewerAfter d c.args.k c.pass_first.new.viewer = c.pass_first.ensures head first in
    map_err c.tell_end.result (λ (tells : TellsShown AddsFront c.pass_first.new.viewer (codes "at") w w').
    subst (λ (l : List ℕ). AddsFront w w' l) (same-shown head c.args.body.now c.args.k c.pass_first.new.viewer after (codes "at")) (tells (viewed (terms_in head) (take c.args.k (records_of c.args.body.now))) after.stands))
    c.tell_end.ensures.front
