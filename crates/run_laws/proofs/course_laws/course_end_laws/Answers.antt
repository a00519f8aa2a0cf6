use Rattle.run_laws.proofs.CourseEnds.{ends_keep_course, refusals_keep_course}
use Rattle.run_laws.proofs.course_laws.course_end_laws.Goals as goal

pub returns-clause-ends : goal.returns-clause-ends
returns-clause-ends g c = λ app. ends_keep_course (c.course_basis.ensures app)

pub returns-clause-refused : goal.returns-clause-refused
returns-clause-refused g c = λ app. refusals_keep_course (c.course_basis.ensures app)
