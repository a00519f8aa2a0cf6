use Rattle.run_laws.proofs.FinishesKeepSound.{finishes_keep_sound}
use Rattle.run_laws.proofs.finish_laws.sound_finish_laws.Goals as goal

pub returns : goal.returns
returns g c = λ app. finishes_keep_sound (c.finish_basis.ensures app)
