use Rattle.library_trials.proofs.edges.reads_are_counted.Given as goal

abbrev pub ghosts-read_three : goal.ghosts-read_three
ghosts-read_three g a = record { name = a.blank.name; parts = a.blank.parts }
