use Rattle.source_pool.proofs.rounds.play_round.Given as goal

abbrev pub ghost-act_or_perform : goal.ghost-act_or_perform
ghost-act_or_perform g a = g.from
