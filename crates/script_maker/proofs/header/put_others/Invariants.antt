use Rattle.script_maker.specs.Adding.{Adds}
use Rattle.script_maker.specs.Draws.{each_below}
use Rattle.script_maker.specs.Header.{other}
use Rattle.script_maker.proofs.header.put_others.Given as goal

abbrev pub invariant-others : goal.invariant-others
invariant-others l = Adds (each_below l.i other) l.fn.spawns l.fn.rng l.spawns l.rng
