use Rattle.commuting.proofs.Renaming.{names_change_no_round, names_change_no_rounds, listed_tasks_come_to_same}
use Rattle.commuting.proofs.laws.listed_tasks_come_to_same.Goals as goal

pub returns-clause-round : goal.returns-clause-round
returns-clause-round g c = λ app ignored. names_change_no_round (c.basis.ensures app) ignored

pub returns-clause-rounds : goal.returns-clause-rounds
returns-clause-rounds g c = λ app ignored. names_change_no_rounds (c.basis.ensures app) ignored

pub returns-clause-same : goal.returns-clause-same
returns-clause-same g c = λ app ignored. listed_tasks_come_to_same (c.basis.ensures app) ignored (c.renaming_laws.ensures app ignored.acts) c.naming_laws.ensures
