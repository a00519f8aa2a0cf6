use Rattle.app_laws.proofs.Renamed.{names_change_no_run}
use Rattle.app_laws.proofs.laws.renaming_laws.Goals as goal

pub returns : goal.returns
returns g c = λ app ignores. names_change_no_run (g.A.App.meaning app) (c.lawful.ensures app) ignores
