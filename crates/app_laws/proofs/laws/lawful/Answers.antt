use Rattle.app_laws.proofs.laws.lawful.Goals as goal

pub returns : goal.returns
returns g c = g.met.A.App.lawful
