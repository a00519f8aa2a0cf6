use Rattle.source_pool.proofs.Legs.{legs_begin, legs_go_on, renamings_go_on}
use Rattle.source_pool.proofs.laws.leg_laws.Goals as goal

pub returns-clause-begins : goal.returns-clause-begins
returns-clause-begins g c = λ app. legs_begin (g.A.App.meaning app)

pub returns-clause-goes_on : goal.returns-clause-goes_on
returns-clause-goes_on g c = λ app. legs_go_on (g.A.App.meaning app)

pub returns-clause-renamed : goal.returns-clause-renamed
returns-clause-renamed g c = λ app. renamings_go_on (c.basis.ensures app)
