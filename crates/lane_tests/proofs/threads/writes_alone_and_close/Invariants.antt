use Rattle.lane_tests.proofs.threads.writes_alone_and_close.Given as goal

abbrev pub ghosts-alone : goal.ghosts-alone
ghosts-alone g a = record { table = a.fresh.table; objects = a.fresh.objects }
