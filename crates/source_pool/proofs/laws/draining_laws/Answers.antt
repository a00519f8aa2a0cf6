use Rattle.source_pool.proofs.Drained.{drains_keep_rest}
use Rattle.source_pool.proofs.laws.draining_laws.Goals as goal

pub returns : goal.returns
returns g c = λ app. drains_keep_rest (c.basis.ensures app)
