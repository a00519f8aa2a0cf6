use Rattle.hook_app.specs.Lawful.{paths_are_ignored}
use Rattle.hook_app.proofs.hook_app.HookAppApp.ignores_paths.Goals as goal

pub returns-clause-known : goal.returns-clause-known
returns-clause-known g c = λ told. let app = c.args.self.now in paths_are_ignored (g.D.Deed.meaning app.deed) app.cells app.sets app.ahead
