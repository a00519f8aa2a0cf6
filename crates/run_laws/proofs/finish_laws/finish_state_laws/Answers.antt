use Rattle.run_laws.proofs.Ended.{effect_is_of_whole, acts_on_whole, stays_ready}
use Rattle.run_laws.proofs.finish_laws.finish_state_laws.Goals as goal

pub returns-clause-effect : goal.returns-clause-effect
returns-clause-effect g c = λ app. effect_is_of_whole (c.finish_basis.ensures app)

pub returns-clause-whole : goal.returns-clause-whole
returns-clause-whole g c = λ app. acts_on_whole (c.finish_basis.ensures app)

pub returns-clause-ready : goal.returns-clause-ready
returns-clause-ready g c = λ app. stays_ready (c.finish_basis.ensures app)
