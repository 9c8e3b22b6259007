use Rattle.arena.proofs.host.Host.tell.Given as goal

abbrev pub ghosts-plan : goal.ghosts-plan
ghosts-plan a = record { name = a.blank.name; parts = a.blank.parts }
