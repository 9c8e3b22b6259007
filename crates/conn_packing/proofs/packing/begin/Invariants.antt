use Rattle.conn_packing.proofs.packing.begin.Given as goal

abbrev pub ghosts-plan_and_ask : goal.ghosts-plan_and_ask
ghosts-plan_and_ask g a = record { name = a.blank.name; parts = a.blank.parts }
