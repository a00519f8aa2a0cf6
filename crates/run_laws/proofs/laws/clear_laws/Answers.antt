use Rattle.run_laws.proofs.ClearNodes.{recorded_sets_suffice, some_is_clear}
use Rattle.run_laws.proofs.Claims.{is_home}
use Rattle.run_laws.proofs.laws.clear_laws.Goals as goal

pub returns-clause-suffice : goal.returns-clause-suffice
returns-clause-suffice g c = λ app. recorded_sets_suffice (c.basis.ensures app)

pub returns-clause-some : goal.returns-clause-some
returns-clause-some g c = λ app. some_is_clear (c.basis.ensures app)

pub returns-clause-home : goal.returns-clause-home
returns-clause-home g c = λ app progress jobs values node sound has clear. is_home (c.basis.ensures app) progress jobs values node sound has clear
