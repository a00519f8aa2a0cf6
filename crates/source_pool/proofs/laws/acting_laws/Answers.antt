use Rattle.source_pool.proofs.Acts.{acts_begin, acts_come_to_rest, acts_go_on, first_may_act, rounds_have_acts, too_many_acts_never_end}
use Rattle.source_pool.proofs.laws.acting_laws.Goals as goal

pub returns-clause-begins : goal.returns-clause-begins
returns-clause-begins g c = λ app. acts_begin (c.basis.ensures app)

pub returns-clause-some : goal.returns-clause-some
returns-clause-some g c = λ app. rounds_have_acts (c.basis.ensures app)

pub returns-clause-first : goal.returns-clause-first
returns-clause-first g c = λ app. first_may_act (c.basis.ensures app)

pub returns-clause-goes_on : goal.returns-clause-goes_on
returns-clause-goes_on g c = λ app. acts_go_on (c.basis.ensures app)

pub returns-clause-too_many : goal.returns-clause-too_many
returns-clause-too_many g c = λ app. too_many_acts_never_end (c.basis.ensures app)

pub returns-clause-rest : goal.returns-clause-rest
returns-clause-rest g c = λ app. acts_come_to_rest (c.basis.ensures app)
