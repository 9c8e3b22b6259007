use Rattle.script_maker.specs.Header.{player}
use Rattle.script_maker.proofs.Drawing.{adds_nothing, adds_one}
use Rattle.script_maker.proofs.header.put_players.Goals as goal

pub clients-init : goal.clients-init
clients-init c = adds_nothing player c.args.spawns.now c.args.rng.now

pub clients-preserved : goal.clients-preserved
clients-preserved c =
    adds_one player c.clients.client c.args.spawns.now c.clients.spawns c.push.new.self c.player.result c.args.rng.now c.clients.rng c.player.new.rng
    c.clients.invariant c.in_ok-push.ensures.ok c.player.ensures
