use Rattle.race_run.proofs.run.race.Given as goal

abbrev pub ghosts-race_on : goal.ghosts-race_on
ghosts-race_on g a = record { table = a.fresh.table; objects = a.fresh.objects }
