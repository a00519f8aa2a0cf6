use Rattle.source_pool.proofs.Acts.{acts_are_the_round}
use Rattle.source_pool.proofs.Drawing.{ends_are_the_round}
use Rattle.source_pool.proofs.Fronts.{kept_texts_are_fronts}
use Rattle.source_pool.proofs.Kept.{drained_texts_are_kept}
use Rattle.source_pool.proofs.Legs.{renamings_keep_texts}
use Rattle.source_pool.proofs.Passing.{acts_pass_with_the_round, ends_pass_with_the_round}
use Rattle.source_pool.proofs.laws.kept_laws.Goals as goal

pub returns-clause-drained : goal.returns-clause-drained
returns-clause-drained g c = λ app. drained_texts_are_kept (c.basis.ensures app)

pub returns-clause-fronts : goal.returns-clause-fronts
returns-clause-fronts g c = λ app. kept_texts_are_fronts (c.basis.ensures app)

pub returns-clause-acts : goal.returns-clause-acts
returns-clause-acts g c = λ app. acts_are_the_round (c.basis.ensures app)

pub returns-clause-ends : goal.returns-clause-ends
returns-clause-ends g c = λ app. ends_are_the_round (c.basis.ensures app)

pub returns-clause-acts_pass : goal.returns-clause-acts_pass
returns-clause-acts_pass g c = λ app. acts_pass_with_the_round (c.basis.ensures app)

pub returns-clause-ends_pass : goal.returns-clause-ends_pass
returns-clause-ends_pass g c = λ app. ends_pass_with_the_round (c.basis.ensures app)

pub returns-clause-renamed : goal.returns-clause-renamed
returns-clause-renamed g c = λ app. renamings_keep_texts (c.basis.ensures app)
