use Rattle.resting_rounds.proofs.running.run_resting.Given as goal

abbrev pub ghosts-counted_resting : goal.ghosts-counted_resting
ghosts-counted_resting g a = record { name = a.blank.name; parts = a.blank.parts }
