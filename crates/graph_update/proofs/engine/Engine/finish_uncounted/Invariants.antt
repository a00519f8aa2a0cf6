use Rattle.graph_update.proofs.engine.Engine.finish_uncounted.Given as goal

abbrev pub ghosts-finish_over : goal.ghosts-finish_over
ghosts-finish_over g a = record { name = a.blank.name; parts = a.blank.parts }
