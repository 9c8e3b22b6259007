use Rattle.std.proofs.Common.{◌<◌, ◌∙◌, List, ap, sym, subst}
use Rattle.std.specs.Prelude.{OnOk}
use Rattle.std.specs.List.{All}
use Rattle.client_scope.specs.declared.period.ShownPeriod.{ShownPeriod}
use Rattle.match_laws.specs.own_lists.Kept.{has_bits}
use Rattle.match_laws.specs.own_lists.Past.{client_terms, kept_by, after}
use Rattle.match_engine.specs.Serving.{AreApart, marked}
use Rattle.match_engine.proofs.Fed.{map_on_ok}
use Rattle.match_engine.proofs.Packing.{objects_there, objects_apart, drains_at_room}
use Rattle.match_engine.proofs.serving.drains_for.Goals as goal

pub drain_all-requires-clause-there : goal.drain_all-requires-clause-there
drain_all-requires-clause-there c =
    let h = c.requires.serves in
    subst (λ (ps : List ShownPeriod). All (λ p. p.object < c.args.lanes.now.objects) ps) (sym c.shown.ensures)
    (objects_there c.args.seat.now c.args.scope.now h.0 c.args.lanes.now c.args.client h.1 h.2 h.3)

pub drain_all-requires-clause-apart : goal.drain_all-requires-clause-apart
drain_all-requires-clause-apart c =
    let h = c.requires.serves in
    subst AreApart (sym c.shown.ensures) (objects_apart c.args.seat.now c.args.scope.now h.0 c.args.lanes.now c.args.client h.1 h.2 h.3)

pub returns-in-Room-clause-drains : goal.returns-in-Room-clause-drains
returns-in-Room-clause-drains c =
    map_on_ok c.drain_all.result _ _
    (λ is w h past s. is ∙ ap (λ (ps : List ShownPeriod). Rattle.std.specs.Prelude.filter has_bits (marked c.args.lanes.now c.args.client ps)) c.shown.ensures
    ∙ drains_at_room c.args.seat.now c.args.scope.now w c.args.lanes.now c.args.client h past s
    (sym (c.pack_state.ensures (client_terms h c.args.client) (kept_by h (after h past) c.args.client).course s.holds.course) ∙ c.in-Room.is))
    c.drain_all.ensures.drains
