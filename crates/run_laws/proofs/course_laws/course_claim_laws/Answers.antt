use Rattle.run_laws.proofs.Course.{any_order_keeps_course, claim_answers_keep_course, claims_keep_course}
use Rattle.run_laws.proofs.course_laws.course_claim_laws.Goals as goal

pub returns-clause-any_order : goal.returns-clause-any_order
returns-clause-any_order g c = λ app. any_order_keeps_course (c.course_basis.ensures app)

pub returns-clause-claims : goal.returns-clause-claims
returns-clause-claims g c = λ app. claims_keep_course (c.course_basis.ensures app)

pub returns-clause-answers : goal.returns-clause-answers
returns-clause-answers g c = λ app. claim_answers_keep_course (c.course_basis.ensures app)
