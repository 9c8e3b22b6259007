use Rattle.std.proofs.Common.{◌∷◌}
use Rattle.relay_script.specs.declared.entries.Entry.TheVariants.{OfRelay}
use Rattle.relay_node.proofs.running.step.Goals as goal

pub returns-in-Ok-write_all-clause-steps : goal.returns-in-Ok-write_all-clause-steps
returns-in-Ok-write_all-clause-steps g c past stands few =
    c.let_go.ensures.stays (OfRelay c.args.placed.now.line ∷ past) (c.in-Ok.ensures.relays past stands few)
