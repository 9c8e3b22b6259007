use Rattle.std.proofs.Common.{◌<◌, [], length, arith}
use Rattle.std.proofs.Math.ListN.{length-set}
use Rattle.race_history.specs.Growing.{with_row}
use Rattle.race_history.proofs.Extending.{extended_next, room_next}
use Rattle.race_history.proofs.Histories.{rows_of, length_rows, row_is, row_few}
use Rattle.race_history.proofs.history.add_world.Goals as goal

pub reach-requires : goal.reach-requires
reach-requires c =
    let lt : c.loop-object.object < length (rows_of c.args.world.now) = let e = length_rows c.args.world.now in omega arith in
    record {
      next = room_next with_row [] c.args.objects.now.items (rows_of c.args.world.now) c.loop-object.object c.loop-object.objects.items c.loop-object.invariant.value lt;
      place = omega arith;
      few = c.loop-object.invariant.few;
    }

pub add-requires : goal.add-requires
add-requires c = row_few c.args.world.now c.loop-object.object c.values.result.now c.values.ensures.value

pub loop-object-preserved : goal.loop-object-preserved
loop-object-preserved c =
    let lt : c.loop-object.object < length (rows_of c.args.world.now) = let e = length_rows c.args.world.now in omega arith in
    record {
      value = extended_next with_row [] c.args.objects.now.items (rows_of c.args.world.now) c.loop-object.object c.loop-object.objects.items c.reach.new.objects.items c.index_mut.result.now c.values.result.now c.add.new.self c.values.result.now c.loop-object.invariant.value lt c.in_ok-reach.ensures.objects c.index_mut.ensures.value (row_is c.args.world.now c.loop-object.object c.values.result.now c.values.ensures.value) c.in_ok-add.ensures;
      few = simp length-set c.reach.ensures.few;
    }
