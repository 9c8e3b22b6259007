use Rattle.std.proofs.Common.{◌&&◌, ◌||◌, Bool, length, ◌∙◌, ap, arith}
use Rattle.world_lanes.specs.Behind.{is_behind}
use Rattle.world_lanes.specs.Storing.{objects_between}
use Rattle.world_lanes.specs.Ticked.{is_written}
use Rattle.world_lanes.proofs.Again.{told_again}
use Rattle.world_lanes.proofs.Ticking.{near_after, more_after, objects_after, fields_after, chosen_after, brings_after, whole_after}
use Rattle.world_lanes.proofs.storing.store_writes.Goals as goal

pub overflow_sub-made : goal.overflow_sub-made
overflow_sub-made g c = let h = more_after c.args.world.now c.args.had c.args.sim.now.steps c.requires.ticked in let e = c.objects.ensures.value in omega (arith, h, e)

pub store_written-requires-clause-near : goal.store_written-requires-clause-near
store_written-requires-clause-near g c = near_after c.args.world.now c.args.had c.args.sim.now.steps c.requires.ticked

pub store_written-requires-clause-there : goal.store_written-requires-clause-there
store_written-requires-clause-there g c = objects_after c.args.world.now c.args.had c.args.sim.now.steps c.requires.ticked

pub store_written-requires-clause-fields : goal.store_written-requires-clause-fields
store_written-requires-clause-fields g c = fields_after c.args.world.now c.args.had c.args.sim.now.steps c.requires.ticked

pub store_from-requires-clause-from : goal.store_from-requires-clause-from
store_from-requires-clause-from g c = more_after c.args.world.now c.args.had c.args.sim.now.steps c.requires.ticked

pub returns-clause-brings : goal.returns-clause-brings
returns-clause-brings g c =
    brings_after c.args.world.now c.args.had c.args.sim.now.steps c.store_written.new.sim.steps c.store_from.new.sim.steps c.requires.ticked
    c.store_written.ensures.brings c.store_from.ensures.brings

pub returns-clause-told : goal.returns-clause-told
returns-clause-told g c = λ o f.
    let w = c.args.world.now in
    let old = c.args.sim.now.steps in
    let most = length w.objects in
    c.store_from.ensures.told o f
    ∙ ap (λ (b : Bool). b || (objects_between c.args.had most o f && is_behind w c.store_written.new.sim.steps o f)) (c.store_written.ensures.told o f)
    ∙ told_again w (is_written w.writes) (objects_between c.args.had most) old c.store_written.new.sim.steps (near_after w c.args.had old c.requires.ticked) c.store_written.ensures.brings o f
    ∙ chosen_after w c.args.had old c.requires.ticked o f

pub returns-clause-whole : goal.returns-clause-whole
returns-clause-whole g c =
    whole_after c.args.world.now c.args.sim.now.steps c.store_from.new.sim.steps (near_after c.args.world.now c.args.had c.args.sim.now.steps c.requires.ticked)
    (brings_after c.args.world.now c.args.had c.args.sim.now.steps c.store_written.new.sim.steps c.store_from.new.sim.steps c.requires.ticked
    c.store_written.ensures.brings c.store_from.ensures.brings)
