use Rattle.run_laws.proofs.Claims.{claims_keep_sound}
use Rattle.run_laws.proofs.laws.claim_laws.Goals as goal

pub returns : goal.returns
returns g c = record { sound = λ app. claims_keep_sound (c.basis.ensures app) }
