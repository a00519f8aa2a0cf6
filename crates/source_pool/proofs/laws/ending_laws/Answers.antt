use Rattle.source_pool.proofs.Ending.{ends_come_to_rest, ends_go_on, first_may_end, too_many_never_end}
use Rattle.source_pool.proofs.laws.ending_laws.Goals as goal

pub returns-clause-first : goal.returns-clause-first
returns-clause-first g c = λ app. first_may_end (c.basis.ensures app)

pub returns-clause-goes_on : goal.returns-clause-goes_on
returns-clause-goes_on g c = λ app. ends_go_on (c.basis.ensures app)

pub returns-clause-too_many : goal.returns-clause-too_many
returns-clause-too_many g c = λ app. too_many_never_end (c.basis.ensures app)

pub returns-clause-rest : goal.returns-clause-rest
returns-clause-rest g c = λ app. ends_come_to_rest (c.basis.ensures app)
