use Rattle.run_laws.proofs.Whole.{whole_is_one}
use Rattle.run_laws.proofs.laws.whole_laws.Goals as goal

pub returns : goal.returns
returns g c = record { one = λ app. whole_is_one (c.basis.ensures app) }
