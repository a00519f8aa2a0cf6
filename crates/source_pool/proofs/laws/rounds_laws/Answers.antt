use Rattle.source_pool.proofs.RoundNumbers.{rest_without_nodes_is_the_end, rounds_add, rounds_are_taken, whole_is_home}
use Rattle.source_pool.proofs.laws.rounds_laws.Goals as goal

pub returns-clause-add : goal.returns-clause-add
returns-clause-add g c = λ app. rounds_add (g.A.App.meaning app)

pub returns-clause-taken : goal.returns-clause-taken
returns-clause-taken g c = λ app. rounds_are_taken (g.A.App.meaning app)

pub returns-clause-end : goal.returns-clause-end
returns-clause-end g c = λ app. rest_without_nodes_is_the_end (c.basis.ensures app)

pub returns-clause-home : goal.returns-clause-home
returns-clause-home g c = λ app. whole_is_home (c.basis.ensures app)
