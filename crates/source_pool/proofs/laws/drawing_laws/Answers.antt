use Rattle.source_pool.proofs.Drawing.{claims_go_on, claims_leave_fewer, drawings_begin, drawn_jobs_are_the_round, drawn_jobs_differ, rounds_have_jobs, starts_are_at_rest}
use Rattle.source_pool.proofs.InKeyOrder.{claims_go_in_key_order, clear_nodes_have_clear_tasks}
use Rattle.source_pool.proofs.laws.drawing_laws.Goals as goal

pub returns-clause-starts : goal.returns-clause-starts
returns-clause-starts g c = λ app. starts_are_at_rest (c.basis.ensures app)

pub returns-clause-begins : goal.returns-clause-begins
returns-clause-begins g c = λ app. drawings_begin (c.basis.ensures app)

pub returns-clause-goes_on : goal.returns-clause-goes_on
returns-clause-goes_on g c = λ app. claims_go_on (c.basis.ensures app)

pub returns-clause-round : goal.returns-clause-round
returns-clause-round g c = λ app. drawn_jobs_are_the_round (c.basis.ensures app)

pub returns-clause-some : goal.returns-clause-some
returns-clause-some g c = λ app. rounds_have_jobs (c.basis.ensures app)

pub returns-clause-differ : goal.returns-clause-differ
returns-clause-differ g c = λ app. drawn_jobs_differ (c.basis.ensures app)

pub returns-clause-fewer : goal.returns-clause-fewer
returns-clause-fewer g c = λ app. claims_leave_fewer (c.basis.ensures app)

pub returns-clause-in_key_order : goal.returns-clause-in_key_order
returns-clause-in_key_order g c = λ app. claims_go_in_key_order (c.basis.ensures app)

pub returns-clause-clear : goal.returns-clause-clear
returns-clause-clear g c = λ app. clear_nodes_have_clear_tasks (c.basis.ensures app)
