use Rattle.std.proofs.Common.{arith}
use Rattle.world_sim.proofs.Gathered.{prepared}
use Rattle.world_sim.proofs.advance.prepare.Goals as goal

pub returns-clause-made : goal.returns-clause-made
returns-clause-made c =
    prepared c.args.objects.now.items c.find_all.new.found c.args.moves.now _ c.deref-3.result.now c.make_discs.new.discs.items
    (rw c.deref.ensures.value at c.in_ok-find_all.ensures) c.deref-3.ensures.value (omega (arith, c.len-room.ensures, c.args.objects.now.ok)) c.in_ok-make_discs.ensures.made
