use Rattle.std.proofs.Common.{ap, ◌∙◌}
use Rattle.race_history.specs.History.{Values}
use Rattle.race_history.specs.Growing.{with_rows}
use Rattle.race_history.proofs.Histories.{rows_of, begins_by, goes_on_by}
use Rattle.race_history.proofs.history.History.add.Goals as goal

pub returns-clause-first : goal.returns-clause-first
returns-clause-first c = begins_by c.args.world.now c.args.self.now c.add_world.new.objects.items (c.in-Ok.ensures.value ∙ ap (λ (old : Values). with_rows old (rows_of c.args.world.now)) c.self.view_is)

pub returns-clause-next : goal.returns-clause-next
returns-clause-next c = goes_on_by c.args.world.now c.args.self.now c.add_world.new.objects.items (c.in-Ok.ensures.value ∙ ap (λ (old : Values). with_rows old (rows_of c.args.world.now)) c.self.view_is)
