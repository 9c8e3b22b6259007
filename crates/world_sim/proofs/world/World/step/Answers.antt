use Rattle.std.proofs.Common.{◌≡◌, ◌≤◌, ◌<◌, ◌-◌, ◌^◌, length, map, refl, ap, subst, arith}
use Rattle.std.specs.List.{AllByRecursion}
use Rattle.world_sim.specs.Rows.{world_writes}
use Rattle.world_sim.specs.RowsNext.{row_counts, rows_next}
use Rattle.world_sim.specs.Worlds.{Worlds, after, coming}
use Rattle.std.proofs.Common.{List}
use Rattle.world_rules.specs.declared.object.Object.{Object}
use Rattle.world_sim.proofs.Kept.{values_kept, counts_kept, as_many}
use Rattle.world_sim.specs.Facts.{IsWriteOf}
use Rattle.world_sim.proofs.InRange.{writes_fit}
use Rattle.world_sim.proofs.Glancing.{players_first}
use Rattle.world_sim.proofs.WorldLaws.{kept_from, sound_rows, more_objects}
use Rattle.world_sim.proofs.world.World.step.Goals as goal

pub invariant_of-self-2 : goal.invariant_of-self-2
invariant_of-self-2 c =
    let before : Worlds = record { seed = c.self.inside.seed; clients = c.self.inside.clients; radius = c.self.inside.radius; ticks = c.self.inside.ticks; objects = c.self.inside.table.objects.items; versions = map row_counts c.self.inside.table.rows.items; writes = c.self.inside.writes.items } in
    let objects : c.advance.new.table.objects.items ≡ after before c.args.moves.now = c.in_ok-advance.ensures.objects in
    let writes : c.swap.new.x.items ≡ world_writes 0 before.objects c.advance.new.table.objects.items before.versions = rw c.swap.ensures.x_after c.in_ok-advance.ensures.writes in
    let rows : c.advance.new.table.rows.items ≡ rows_next c.self.inside.table.rows.items c.advance.new.table.objects.items = c.in_ok-advance.ensures.rows in
    let many = as_many c.self.inside.table.rows.items before.objects c.self.invariant.values in
    let more : length c.self.inside.table.rows.items ≤ length c.advance.new.table.objects.items = omega (arith, many, more_objects before.objects c.args.moves.now (coming before), ap (λ (os : List Object). length os) objects) in
    kept_from before c.args.moves.now before.objects before.versions c.advance.new.table.objects.items c.advance.new.table.rows.items c.swap.new.x.items c.advance.new.table.glances.items c.advance.new.table.beside.cells c.advance.new.table.beside.places c.self.inside.always.items c.advance.new.table.going refl refl objects
    (values_kept c.self.inside.table.rows.items c.advance.new.table.rows.items c.advance.new.table.objects.items rows more)
    (counts_kept c.self.inside.table.rows.items c.advance.new.table.rows.items before.objects c.advance.new.table.objects.items c.self.invariant.values rows)
    writes c.in_ok-advance.ensures.glances c.in_ok-advance.ensures.grid c.in_ok-advance.ensures.placed c.self.invariant.lasting c.in_ok-advance.ensures.going c.self.invariant.world

pub returns-clause-writes : goal.returns-clause-writes
returns-clause-writes c =
    let before : Worlds = record { seed = c.self.inside.seed; clients = c.self.inside.clients; radius = c.self.inside.radius; ticks = c.self.inside.ticks; objects = c.self.inside.table.objects.items; versions = map row_counts c.self.inside.table.rows.items; writes = c.self.inside.writes.items } in
    let objects : c.advance.new.table.objects.items ≡ after before c.args.moves.now = c.in_ok-advance.ensures.objects in
    let writes : c.swap.new.x.items ≡ world_writes 0 before.objects c.advance.new.table.objects.items before.versions = rw c.swap.ensures.x_after c.in_ok-advance.ensures.writes in
    let told : AllByRecursion (IsWriteOf before) c.swap.new.x.items = writes_fit before c.args.moves.now c.swap.new.x.items (rw objects at writes) c.self.invariant.world in
    subst (λ (w : Worlds). AllByRecursion (IsWriteOf w) c.swap.new.x.items) c.self.view_is told

pub advance-requires-clause-sound : goal.advance-requires-clause-sound
advance-requires-clause-sound c =
    let few : c.self.inside.ticks < 2 ^ 32 - 1 = omega (arith, ap (λ (w : Worlds). w.ticks) c.self.view_is, c.requires) in
    sound_rows c.self.inside.ticks c.self.inside.table.objects.items c.self.inside.table.rows.items few c.self.invariant.values c.self.invariant.world.versions c.self.invariant.world.counted

pub advance-requires-clause-first : goal.advance-requires-clause-first
advance-requires-clause-first c = players_first c.self.inside.clients 0 c.self.inside.table.objects.items c.self.invariant.world.peopled.owned
