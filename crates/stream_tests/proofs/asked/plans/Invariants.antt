use Rattle.stream_tests.proofs.asked.plans.Given as goal

abbrev pub ghosts-plan : goal.ghosts-plan
ghosts-plan a = record { name = a.blank.name; parts = a.blank.parts }
