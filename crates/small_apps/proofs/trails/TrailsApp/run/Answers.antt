use Rattle.small_apps.proofs.Passing.{passed}
use Rattle.small_apps.proofs.trails.TrailsApp.run.Goals as goal

pub returns-clause-effect : goal.returns-clause-effect
returns-clause-effect c = λ cells fit is.
    passed c.args.task.now cells c.value_laws.ensures.homes fit c.requires.fit is c.put.ensures c.in-Ok.ensures c.in-Ok-followers.ensures c.new.ensures
