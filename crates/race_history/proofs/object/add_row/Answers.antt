use Rattle.std.proofs.Common.{[], refl, arith}
use Rattle.std.specs.Prelude.{pos, slice_index_or}
use Rattle.std.proofs.Math.ListN.{length-set}
use Rattle.race_history.specs.Growing.{grown}
use Rattle.race_history.proofs.Extending.{extended_next, room_next}
use Rattle.race_history.proofs.object.add_row.Goals as goal

pub reach-requires : goal.reach-requires
reach-requires c = record {
  next = room_next grown [] c.args.fields.now.items c.args.now.now c.loop-i.i c.loop-i.fields.items c.loop-i.invariant.value c.loop-i-test.true;
  place = omega arith;
  few = c.loop-i.invariant.few;
}

pub loop-i-preserved : goal.loop-i-preserved
loop-i-preserved c = record {
  value = extended_next grown [] c.args.fields.now.items c.args.now.now c.loop-i.i c.loop-i.fields.items c.reach.new.fields.items c.index_mut.result.now (slice_index_or c.args.now.now c.loop-i.i (pos 0)) c.add.new.self (pos 0) c.loop-i.invariant.value c.loop-i-test.true c.in_ok-reach.ensures.fields c.index_mut.ensures.value refl c.in_ok-add.ensures;
  few = simp length-set c.reach.ensures.few;
}
