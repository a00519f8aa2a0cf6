use Rattle.kdg_prog.proofs.RoundCounting.{counted_to_the_end, few_are_counted}
use Rattle.kdg_prog.proofs.laws.round_count_laws.Goals as goal

pub returns-clause-few : goal.returns-clause-few
returns-clause-few g c = λ app. few_are_counted (g.A.App.meaning app)

pub returns-clause-to_the_end : goal.returns-clause-to_the_end
returns-clause-to_the_end g c = λ app. counted_to_the_end (g.A.App.meaning app) c.execution_laws.ensures.stops c.execution_laws.ensures.logs (c.round_laws.ensures.take_rounds app)
