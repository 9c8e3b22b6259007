use Rattle.demo_tests.proofs.seeks.seen.Given as goal

abbrev pub ghosts-shown : goal.ghosts-shown
ghosts-shown a = record { name = a.blank.name; parts = a.blank.parts }
