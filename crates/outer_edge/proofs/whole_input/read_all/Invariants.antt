use Rattle.outer_edge.proofs.whole_input.read_all.Given as goal

abbrev pub ghosts-read_from_blank : goal.ghosts-read_from_blank
ghosts-read_from_blank g a = record { name = a.blank.name; parts = a.blank.parts }
