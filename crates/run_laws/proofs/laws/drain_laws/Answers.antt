use Rattle.run_laws.proofs.Marks.{marks_and_drains_keep_sound}
use Rattle.run_laws.proofs.laws.drain_laws.Goals as goal

pub returns : goal.returns
returns g c = record { sound = λ app. marks_and_drains_keep_sound (c.basis.ensures app) }
