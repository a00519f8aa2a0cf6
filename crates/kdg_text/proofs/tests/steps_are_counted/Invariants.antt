use Rattle.kdg_text.proofs.tests.steps_are_counted.Given as goal

abbrev pub ghosts-three_steps : goal.ghosts-three_steps
ghosts-three_steps a = record { name = a.blank.name; parts = a.blank.parts }
