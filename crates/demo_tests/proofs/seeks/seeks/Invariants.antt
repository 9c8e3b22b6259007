use Rattle.demo_tests.proofs.seeks.seeks.Given as goal

abbrev pub ghosts-loaded : goal.ghosts-loaded
ghosts-loaded a = record { name = a.blank.name; parts = a.blank.parts }
