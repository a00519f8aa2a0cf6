use Rattle.source_pool.proofs.partners.Partners.play_round.Given as goal

abbrev pub ghost-share_round : goal.ghost-share_round
ghost-share_round g a = g.from
