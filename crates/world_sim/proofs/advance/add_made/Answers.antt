use Rattle.std.proofs.Common.{rules, arith}
use Rattle.std.proofs.lemmas.Grind.{common_steps}
use Rattle.world_sim.proofs.Placing.{behind_fits, fits_at}
use Rattle.world_sim.proofs.advance.add_made.Goals as goal

pub loop-o-preserved : goal.loop-o-preserved
loop-o-preserved c = record {
  objects = grind (arith, common_steps);
  rows = grind (arith, common_steps);
  glances = grind (arith, common_steps);
  grid = search rules;
  placed = rw c.push_reserved-in-loop-o-2.ensures.items (c.settle-in-loop-o.ensures.added c.loop-o.objects.items (omega (arith, c.len-in-loop-o.ensures, c.loop-o.objects.ok))
      (fits_at c.args.made.now c.loop-o.o-index _ (behind_fits c.args.objects.now.items c.args.made.now c.requires.fits) (omega (arith, c.loop-o-test.true))) c.loop-o.invariant.placed);
  room = search rules;
  rows_room = search rules;
  glances_many = search rules;
  glances_room = search rules;
}
