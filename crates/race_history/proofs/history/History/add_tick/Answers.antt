use Rattle.std.proofs.Common.{List, ◌∙◌, ap}
use Rattle.world_sim.specs.declared.rows.Write.{Write}
use Rattle.race_history.specs.History.{Values}
use Rattle.race_history.specs.Growing.{with_new, with_writes}
use Rattle.race_history.proofs.Histories.{rows_of}
use Rattle.race_history.proofs.Writing.{goes_on_by_writes}
use Rattle.race_history.proofs.history.History.add_tick.Goals as goal

pub returns : goal.returns
returns c =
    let rows = rows_of c.args.world.now in
    record {
      next = goes_on_by_writes c.args.world.now c.args.self.now c.add_new.new.objects.items
          (c.in-Ok-add_new.ensures.value
          ∙ ap (λ (values : Values). with_new values rows) c.in-Ok.ensures.value
          ∙ ap (λ (writes : List Write). with_new (with_writes writes c.self.inside.objects.items) rows) c.writes.ensures
          ∙ ap (λ (values : Values). with_new (with_writes c.args.world.now.writes values) rows) c.self.view_is);
    }
