use Rattle.graph_update.proofs.engine.Engine.begin_uncounted.Given as goal

abbrev pub ghosts-begin_over : goal.ghosts-begin_over
ghosts-begin_over g a = record { name = a.blank.name; parts = a.blank.parts }
