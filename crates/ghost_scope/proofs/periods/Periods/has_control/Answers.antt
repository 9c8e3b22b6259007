use Rattle.std.proofs.Common.{◌≡◌, ◌&&◌, ◌∙◌, rules}
use Rattle.std.specs.List.{list_any}
use Rattle.ghost_model.specs.Phases.{is_up}
use Rattle.ghost_scope.proofs.Counts.{control_entries, control_counted}
use Rattle.ghost_scope.proofs.periods.Periods.has_control.Goals as goal

pub returns-clause-value : goal.returns-clause-value
returns-clause-value c =
    let value : c.any_control.result ≡ list_any (λ e. e.control && is_up e.phase) c.args.self.now.entries = search rules in
    value ∙ control_entries c.args.self.now c.as_slice.ensures.ordered

pub returns-clause-told : goal.returns-clause-told
returns-clause-told c log stands =
    let value : c.any_control.result ≡ list_any (λ e. e.control && is_up e.phase) c.args.self.now.entries = search rules in
    value ∙ control_counted c.args.self.now c.as_slice.ensures.ordered log stands
