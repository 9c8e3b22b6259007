use Rattle.std.proofs.Common.{◌≡◌, ◌∙◌, rules, count_by}
use Rattle.ghost_model.specs.Phases.{is_up}
use Rattle.ghost_scope.proofs.Counts.{up_entries, up_counted}
use Rattle.ghost_scope.proofs.periods.Periods.up_count.Goals as goal

pub returns-clause-value : goal.returns-clause-value
returns-clause-value c =
    let value : c.count_entries.result ≡ count_by (λ e. is_up e.phase) c.args.self.now.entries = search rules in
    value ∙ up_entries c.args.self.now c.as_slice.ensures.ordered

pub returns-clause-told : goal.returns-clause-told
returns-clause-told c log stands =
    let value : c.count_entries.result ≡ count_by (λ e. is_up e.phase) c.args.self.now.entries = search rules in
    value ∙ up_counted c.args.self.now c.as_slice.ensures.ordered log stands
