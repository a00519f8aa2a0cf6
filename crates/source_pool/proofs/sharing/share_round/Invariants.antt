use Rattle.source_pool.proofs.sharing.share_round.Given as goal

abbrev pub ghost-give_and_end : goal.ghost-give_and_end
ghost-give_and_end g a = g.from
