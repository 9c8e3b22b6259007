use Rattle.lane_tests.proofs.threads.packer_follows_simulation.Given as goal

abbrev pub ghosts-race : goal.ghosts-race
ghosts-race g a = record { table = a.fresh.table; objects = a.fresh.objects }
