use Rattle.source_pool.proofs.staffing.all_rounds.Given as goal

abbrev pub ghost-counted_rounds : goal.ghost-counted_rounds
ghost-counted_rounds g a = a.engine.progress

abbrev pub ghosts-counted_rounds : goal.ghosts-counted_rounds
ghosts-counted_rounds g a = record { name = a.blank.name; parts = a.blank.parts }
