use Rattle.source_pool.proofs.rounds.play_with_partners.Given as goal

abbrev pub ghost-play_round : goal.ghost-play_round
ghost-play_round g a = g.from
