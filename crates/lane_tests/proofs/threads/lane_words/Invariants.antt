use Rattle.lane_tests.proofs.threads.lane_words.Given as goal

abbrev pub ghosts-row : goal.ghosts-row
ghosts-row g a = record { table = a.fresh.table; objects = a.fresh.objects }
