use Rattle.std.proofs.Common.{◌≡◌, refl, ◌∙◌, ap, map}
use Rattle.world_rules.specs.Spawning.{first_objects}
use Rattle.world_sim.specs.RowsNext.{fresh_row}
use Rattle.world_sim.specs.Glances.{glance_of}
use Rattle.world_sim.proofs.Going.{all_going}
use Rattle.world_sim.proofs.WorldLaws.{fresh_world, first_is}
use Rattle.world_sim.proofs.world.World.start.Goals as goal

pub invariant_of-result : goal.invariant_of-result
invariant_of-result c = fresh_world c.args.seed c.args.setup.now.clients c.args.setup.now.radius c.in_ok-objects.objects.items c.in_ok-objects.objects.items c.in_ok-rows.rows.items c.in_ok-writes.writes.items c.in_ok-glances.glances.items c.settle_from.new.self c.in_ok-places.places c.in_ok-always.always.items c.in_ok-going.going c.in_ok-objects.ensures.few (rw (c.in_ok-objects.ensures.objects, c.as_slice.ensures) c.requires.fits) (rw (c.in_ok-objects.ensures.objects, c.as_slice.ensures) c.requires.peopled) refl (c.in_ok-rows.ensures ∙ ap (map fresh_row) c.deref.ensures.value)
    (c.in_ok-glances.ensures ∙ ap (map glance_of) c.deref-2.ensures.value)
    (rw c.deref-5.ensures.value at c.settle_from.ensures) (rw c.deref-4.ensures.value at c.in_ok-places.ensures) (rw c.deref-3.ensures.value at c.in_ok-always.ensures) (all_going c.in_ok-going.going c.in_ok-objects.objects.items c.in_ok-going.ensures)

pub returns : goal.returns
returns c =
    let os : c.in_ok-objects.objects.items ≡ first_objects 0 c.args.setup.now.spawns = c.in_ok-objects.ensures.objects ∙ ap (first_objects 0) c.as_slice.ensures in
    first_is c.args.seed c.args.setup.now c.in_ok-objects.objects.items c.in_ok-rows.rows.items c.in_ok-writes.writes.items os (c.in_ok-rows.ensures ∙ ap (map fresh_row) c.deref.ensures.value) c.in_ok-writes.ensures.items
