use Rattle.run_laws.proofs.ClaimedNodes.{claims_take_one_clear}
use Rattle.run_laws.proofs.laws.clear_claim_laws.Goals as goal

pub returns : goal.returns
returns g c = record { one = λ app. claims_take_one_clear (c.basis.ensures app) }
