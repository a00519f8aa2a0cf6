use Rattle.run_laws.proofs.CourseDrains.{drains_keep_course, drains_take_the_next}
use Rattle.run_laws.proofs.course_laws.course_drain_laws.Goals as goal

pub returns-clause-drains : goal.returns-clause-drains
returns-clause-drains g c = λ app. drains_keep_course (c.course_basis.ensures app)

pub returns-clause-next : goal.returns-clause-next
returns-clause-next g c = λ app. drains_take_the_next (c.course_basis.ensures app)
