use Rattle.run_laws.proofs.CourseMeans.{courses_mean_the_sequential_run, no_nodes_are_the_end}
use Rattle.run_laws.proofs.course_laws.course_run_laws.Goals as goal

pub returns-clause-runs : goal.returns-clause-runs
returns-clause-runs g c = λ app. courses_mean_the_sequential_run (c.course_basis.ensures app)

pub returns-clause-end : goal.returns-clause-end
returns-clause-end g c = λ app. no_nodes_are_the_end (c.course_basis.ensures app)
