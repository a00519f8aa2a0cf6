use Rattle.source_pool.proofs.sharing.give_and_end.Given as goal

abbrev pub ghost-give_all : goal.ghost-give_all
ghost-give_all g a = g.from
