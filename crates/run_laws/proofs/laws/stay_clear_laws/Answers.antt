use Rattle.run_laws.proofs.ClearStays.{acts_leave_clear, clear_nodes_stay_clear}
use Rattle.run_laws.proofs.laws.stay_clear_laws.Goals as goal

pub returns-clause-stay : goal.returns-clause-stay
returns-clause-stay g c = λ app. clear_nodes_stay_clear (c.basis.ensures app) (c.finish_basis.ensures app) (c.sound_finish_laws.ensures app)

pub returns-clause-acts : goal.returns-clause-acts
returns-clause-acts g c = λ app. acts_leave_clear (c.basis.ensures app) (c.finish_basis.ensures app) (c.sound_finish_laws.ensures app)
