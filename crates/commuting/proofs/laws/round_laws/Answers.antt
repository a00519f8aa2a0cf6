use Rattle.commuting.proofs.Rounds.{clear_tasks_are_listed, rounds_keep_ready, rounds_keep_standing, ends_take_rounds, rounds_end, rounds_are_one_number}
use Rattle.commuting.proofs.laws.round_laws.Goals as goal

pub returns-clause-listed : goal.returns-clause-listed
returns-clause-listed g c = λ app. clear_tasks_are_listed (c.basis.ensures app)

pub returns-clause-ready : goal.returns-clause-ready
returns-clause-ready g c = λ app. rounds_keep_ready (c.basis.ensures app)

pub returns-clause-standing : goal.returns-clause-standing
returns-clause-standing g c = λ app. rounds_keep_standing (c.basis.ensures app)

pub returns-clause-take_rounds : goal.returns-clause-take_rounds
returns-clause-take_rounds g c = λ app. ends_take_rounds (c.basis.ensures app)

pub returns-clause-end : goal.returns-clause-end
returns-clause-end g c = λ app. rounds_end (c.basis.ensures app)

pub returns-clause-one_number : goal.returns-clause-one_number
returns-clause-one_number g c = λ app. rounds_are_one_number (c.basis.ensures app)
