use Rattle.mark_rounds.proofs.running.run_marks.Given as goal

abbrev pub ghosts-counted_marks : goal.ghosts-counted_marks
ghosts-counted_marks g a = record { name = a.blank.name; parts = a.blank.parts }
