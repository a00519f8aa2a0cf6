use Rattle.run_laws.proofs.Beginnings.{beginnings_are_sound}
use Rattle.run_laws.proofs.laws.begin_laws.Goals as goal

pub returns : goal.returns
returns g c = record { sound = λ app. beginnings_are_sound (c.basis.ensures app) }
