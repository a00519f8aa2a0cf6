use Rattle.run_laws.proofs.CourseEvents.{events_keep_course}
use Rattle.run_laws.proofs.CoursesFollow.{courses_follow}
use Rattle.run_laws.proofs.course_laws.course_event_laws.Goals as goal

pub returns-clause-events : goal.returns-clause-events
returns-clause-events g c = λ app. events_keep_course (c.course_basis.ensures app)

pub returns-clause-follow : goal.returns-clause-follow
returns-clause-follow g c = λ app. courses_follow (c.course_basis.ensures app)
