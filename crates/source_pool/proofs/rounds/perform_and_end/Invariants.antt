use Rattle.source_pool.proofs.rounds.perform_and_end.Given as goal

abbrev pub ghost-perform_round : goal.ghost-perform_round
ghost-perform_round g a = g.from
