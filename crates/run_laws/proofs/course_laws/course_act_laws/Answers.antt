use Rattle.run_laws.proofs.CourseActs.{act_faults_keep_course, acts_keep_course}
use Rattle.run_laws.proofs.course_laws.course_act_laws.Goals as goal

pub returns-clause-acts : goal.returns-clause-acts
returns-clause-acts g c = λ app. acts_keep_course (c.course_basis.ensures app)

pub returns-clause-fault : goal.returns-clause-fault
returns-clause-fault g c = λ app. act_faults_keep_course (c.course_basis.ensures app)
