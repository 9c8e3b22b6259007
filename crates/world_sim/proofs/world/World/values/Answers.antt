use Rattle.std.proofs.Common.{◌≡◌, ◌<◌, ap, arith, length, map, subst, Some}
use Rattle.std.specs.List.{AllByRecursion}
use Rattle.world_rules.specs.Ranges.{ObjectFits}
use Rattle.world_sim.proofs.InRange.{ranges_at}
use Rattle.world_sim.specs.Worlds.{Worlds, values_at}
use Rattle.world_sim.specs.RowsNext.{row_counts}
use Rattle.world_sim.proofs.Kept.{as_many}
use Rattle.world_sim.proofs.ForGood.{values_told}
use Rattle.world_sim.proofs.world.World.values.Goals as goal

pub returns : goal.returns
returns c =
    let w : Worlds = record { seed = c.self.inside.seed; clients = c.self.inside.clients; radius = c.self.inside.radius; ticks = c.self.inside.ticks; objects = c.self.inside.table.objects.items; versions = map row_counts c.self.inside.table.rows.items; writes = c.self.inside.writes.items } in
    let same = ap (λ (u : Worlds). length u.objects) c.self.view_is in
    let few : c.args.object < length c.self.inside.table.rows.items = omega (arith, same, as_many c.self.inside.table.rows.items c.self.inside.table.objects.items c.self.invariant.values, c.requires) in
    let fits : AllByRecursion ObjectFits c.args.self.now.objects = subst (λ (u : Worlds). AllByRecursion ObjectFits u.objects) c.self.view_is c.self.invariant.world.fits in
    let told : Some c.as_slice.result.now ≡ values_at c.args.self.now c.args.object = values_told w c.args.self.now c.self.inside.table.rows.items c.args.object c.index.result.now c.as_slice.result.now c.self.view_is c.self.invariant.values few c.index.ensures c.as_slice.ensures.value in
    record { value = told; fits = ranges_at c.args.self.now.objects c.args.object c.as_slice.result.now fits told }
