use Rattle.run_laws.proofs.Course.{beginnings_are_starts, starts_have_come}
use Rattle.run_laws.proofs.course_laws.course_start_laws.Goals as goal

pub returns-clause-starts : goal.returns-clause-starts
returns-clause-starts g c = λ app. starts_have_come (c.course_basis.ensures app)

pub returns-clause-begins : goal.returns-clause-begins
returns-clause-begins g c = λ app. beginnings_are_starts (c.course_basis.ensures app)
