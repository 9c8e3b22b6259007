use Rattle.std.proofs.Common.{[], ◌∷◌, ◌++◌}
use Rattle.match_script.specs.declared.types.BodyLine.TheVariants.{Tick}
use Rattle.script_maker.specs.Adding.{Adds}
use Rattle.script_maker.specs.Draws.{each_below}
use Rattle.script_maker.specs.Lines.{client_lines}
use Rattle.script_maker.proofs.lines.put_round.Given as goal

abbrev pub invariant-clients : goal.invariant-clients
invariant-clients l = Adds (each_below l.client (client_lines l.k)) (l.fn.lines.items ++ Tick ∷ []) l.fn.rng l.lines.items l.rng
