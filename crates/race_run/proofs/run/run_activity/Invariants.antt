use Rattle.race_run.proofs.run.run_activity.Given as goal

abbrev pub ghosts-pack_all : goal.ghosts-pack_all
ghosts-pack_all g a = record { name = a.blank.name; parts = a.blank.parts }
