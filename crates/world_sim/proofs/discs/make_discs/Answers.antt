use Rattle.std.proofs.Common.{◌≡◌, arith}
use Rattle.world_rules.specs.Players.{fired}
use Rattle.world_sim.specs.Worlds.{added}
use Rattle.world_sim.proofs.Made.{added_at}
use Rattle.world_sim.proofs.discs.make_discs.Goals as goal

pub loop-o-preserved : goal.loop-o-preserved
loop-o-preserved c =
    let e : c.add_disc.new.discs.items ≡ added c.args.room c.loop-o.discs.items c.fired.result = c.in_ok-add_disc.ensures in
    added_at (fired c.args.moves.now) c.args.room c.loop-o.discs.items c.add_disc.new.discs.items c.args.objects.now c.loop-o.o-index _ c.fired.result e c.fired.ensures (omega arith) c.loop-o.invariant
