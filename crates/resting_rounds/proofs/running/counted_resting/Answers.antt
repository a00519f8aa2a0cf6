use Rattle.std.proofs.Common.{subst}
use Rattle.resting_rounds.specs.Waiting.{AreWaiting}
use Rattle.resting_rounds.proofs.running.counted_resting.Goals as goal

pub all_rounds-requires-clause-waiting : goal.all_rounds-requires-clause-waiting
all_rounds-requires-clause-waiting g c κs within =
    let list = c.in_ok-list.list in
    subst (λ a. AreWaiting (g.A.App.meaning a) (g.A.Resting.covers a list.acted) c.args.run.state list.waiting.items) c.app-app.ensures (c.in_ok-list.ensures c.args.run.state c.requires.tasks)
