use Rattle.std.proofs.Common.{◌<◌, ◌∙◌, List, ap, sym, subst}
use Rattle.std.specs.List.{All}
use Rattle.client_scope.specs.declared.period.ShownPeriod.{ShownPeriod}
use Rattle.match_laws.specs.own_lists.Past.{client_terms, kept_by, after}
use Rattle.match_laws.specs.client_seat.Told.{show_told}
use Rattle.match_engine.specs.Serving.{marked}
use Rattle.match_engine.proofs.Fed.{map_if_ok}
use Rattle.match_engine.proofs.Packing.{objects_there, written_is, all_up_there}
use Rattle.match_engine.proofs.serving.show_for.Goals as goal

pub written_of-requires-clause-there : goal.written_of-requires-clause-there
written_of-requires-clause-there c =
    let h = c.requires.serves in
    subst (λ (ps : List ShownPeriod). All (λ p. p.object < c.args.lanes.now.objects) ps) (sym c.shown.ensures)
    (objects_there c.args.seat.now c.args.scope.now h.0 c.args.lanes.now c.args.client h.1 h.2 h.3)

pub show-requires-clause-up : goal.show-requires-clause-up
show-requires-clause-up c =
    let h = c.requires.serves in
    let is = c.deref.ensures.value ∙ c.in-Ok.ensures ∙ ap (marked c.args.lanes.now c.args.client) c.shown.ensures in
    all_up_there c.args.seat.now c.args.scope.now h.0 c.args.lanes.now c.args.client h.1 h.2 h.3 c.deref.result.now is

pub returns : goal.returns
returns c =
    let is = c.deref.ensures.value ∙ c.in-Ok.ensures ∙ ap (marked c.args.lanes.now c.args.client) c.shown.ensures in
    map_if_ok c.show.result _ _
    (λ told f w h past s. f (client_terms h c.args.client) (kept_by h (after h past) c.args.client).course s.holds.course
    ∙ ap (show_told (client_terms h c.args.client) (kept_by h (after h past) c.args.client).course c.args.client) (is ∙ written_is c.args.seat.now c.args.scope.now w c.args.lanes.now c.args.client h past s))
    c.show.ensures
