use Rattle.source_pool.proofs.rounds.act_or_perform.Given as goal

abbrev pub ghost-act_round : goal.ghost-act_round
ghost-act_round g a = g.from

abbrev pub ghost-play_with_partners : goal.ghost-play_with_partners
ghost-play_with_partners g a = g.from

abbrev pub ghost-perform_and_end : goal.ghost-perform_and_end
ghost-perform_and_end g a = g.from
