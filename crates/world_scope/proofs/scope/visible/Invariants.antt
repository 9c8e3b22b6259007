use Rattle.world_scope.proofs.scope.visible.Given as goal

abbrev pub ghosts-visible_blank : goal.ghosts-visible_blank
ghosts-visible_blank a = record { name = a.blank.name; parts = a.blank.parts }
