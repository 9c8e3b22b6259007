use Rattle.std.proofs.Common.{◌∙◌, ◌++◌, List, map, ap, get_or}
use Rattle.std.specs.List.{filter_map}
use Rattle.world_sim.specs.declared.rows.Write.{Write}
use Rattle.own_lists.specs.Past as past
use Rattle.own_items.specs.Items.{write_of}
use Rattle.own_items.proofs.MadeItems.{more_periods}
use Rattle.own_items.proofs.making.writes_of.Goals as goal

pub loop-period-preserved : goal.loop-period-preserved
loop-period-preserved c =
    let p = get_or c.args.periods.now c.loop-period.period-index _ in
    more_periods c.args.world.now _ _ c.args.periods.now c.loop-period.period-index _ c.loop-period-test.true c.loop-period.invariant
    (c.in_ok-put_writes.ensures ∙ ap (λ (ws : List Write). map write_of c.loop-period.all.items ++ filter_map (past.write_of p) ws) c.writes.ensures)
