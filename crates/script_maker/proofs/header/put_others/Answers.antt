use Rattle.script_maker.specs.Header.{other}
use Rattle.script_maker.proofs.Drawing.{adds_nothing, adds_one}
use Rattle.script_maker.proofs.header.put_others.Goals as goal

pub others-init : goal.others-init
others-init c = adds_nothing other c.args.spawns.now c.args.rng.now

pub others-preserved : goal.others-preserved
others-preserved c =
    adds_one other c.others.i c.args.spawns.now c.others.spawns c.push.new.self c.other.result c.args.rng.now c.others.rng c.other.new.rng
    c.others.invariant c.in_ok-push.ensures.ok c.other.ensures
