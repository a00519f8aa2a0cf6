use Rattle.source_pool.proofs.performing.perform_round.Given as goal

abbrev pub ghost-draw : goal.ghost-draw
ghost-draw g a = g.from
