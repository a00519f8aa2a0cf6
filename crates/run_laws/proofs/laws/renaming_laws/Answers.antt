use Rattle.run_laws.proofs.Beginnings.{as_many_first_nodes}
use Rattle.app_laws.specs.ListedLaws.{listed_fit}
use Rattle.run_laws.proofs.Renaming.{renamings_keep_sound}
use Rattle.run_laws.proofs.laws.renaming_laws.Goals as goal

pub returns-clause-sound : goal.returns-clause-sound
returns-clause-sound g c = λ app. renamings_keep_sound (c.basis.ensures app)

pub returns-clause-fit : goal.returns-clause-fit
returns-clause-fit g c = λ app. listed_fit (g.A.App.meaning app)

pub returns-clause-as_many : goal.returns-clause-as_many
returns-clause-as_many g c = λ app. as_many_first_nodes (c.basis.ensures app).lower.put_all_length (g.A.App.meaning app)
