use Rattle.source_pool.proofs.Fronts.{drained_entries_are_first}
use Rattle.source_pool.proofs.laws.drained_laws.Goals as goal

pub returns : goal.returns
returns g c = λ app. drained_entries_are_first (c.basis.ensures app)
