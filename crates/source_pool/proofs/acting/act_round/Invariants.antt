use Rattle.source_pool.specs.Round.{next_point}
use Rattle.source_pool.proofs.acting.act_round.Given as goal

abbrev pub ghost-act_in_turn : goal.ghost-act_in_turn
ghost-act_in_turn g a = next_point (g.A.App.meaning a.engine.now.app) g.from g.from.text
