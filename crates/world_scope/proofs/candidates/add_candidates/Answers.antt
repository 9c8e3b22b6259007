use Rattle.std.proofs.Common.{false, arith}
use Rattle.world_cells.specs.Grid.{lasts}
use Rattle.world_cells.proofs.Numbers.{all_there}
use Rattle.world_scope.proofs.Sets.{those_none}
use Rattle.world_scope.proofs.candidates.add_candidates.Goals as goal

pub add_all-requires : goal.add_all-requires
add_all-requires c = record {
  few = λ k l.
      let there = all_there lasts c.args.world.now.objects c.always.result.now c.always.ensures k l in
      omega (arith, there, c.requires.few);
}

pub returns : goal.returns
returns c =
    c.add_near.ensures lasts (c.add_all.ensures (λ o. false) lasts c.args.world.now.objects (those_none c.args.words.now c.args.world.now.objects c.requires.empty) c.always.ensures)
