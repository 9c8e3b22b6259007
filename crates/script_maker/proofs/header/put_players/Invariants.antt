use Rattle.script_maker.specs.Adding.{Adds}
use Rattle.script_maker.specs.Draws.{each_below}
use Rattle.script_maker.specs.Header.{player}
use Rattle.script_maker.proofs.header.put_players.Given as goal

abbrev pub invariant-clients : goal.invariant-clients
invariant-clients l = Adds (each_below l.client player) l.fn.spawns l.fn.rng l.spawns l.rng
