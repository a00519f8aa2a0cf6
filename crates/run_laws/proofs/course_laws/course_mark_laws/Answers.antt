use Rattle.run_laws.proofs.Course.{giving_up_keeps_course}
use Rattle.run_laws.proofs.CourseEnds.{passed_limits_keep_course, passed_limits_never_end}
use Rattle.run_laws.proofs.course_laws.course_mark_laws.Goals as goal

pub returns-clause-never_ends : goal.returns-clause-never_ends
returns-clause-never_ends g c = λ app. passed_limits_never_end (c.course_basis.ensures app)

pub returns-clause-over_limit : goal.returns-clause-over_limit
returns-clause-over_limit g c = λ app. passed_limits_keep_course (c.course_basis.ensures app)

pub returns-clause-gives_up : goal.returns-clause-gives_up
returns-clause-gives_up g c = λ app. giving_up_keeps_course (c.course_basis.ensures app)
