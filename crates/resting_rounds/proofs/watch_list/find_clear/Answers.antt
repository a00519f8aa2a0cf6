use Rattle.std.proofs.Common.{OnOk, subst}
use Rattle.commuting.specs.States.{State}
use Rattle.resting_rounds.specs.Found.{IsFound}
use Rattle.resting_rounds.proofs.RoundLaws.{same_state}
use Rattle.resting_rounds.proofs.watch_list.find_clear.Goals as goal

pub returns : goal.returns
returns g c =
    let run = c.args.run.now in
    let shown = c.app-app.result.now in
    let made = c.look.new.found in
    let state_is = same_state run.state c.store-store.result.now c.args.list.now.waiting.items c.deref.result.now c.requires.tasks c.store-store.ensures.cells c.deref.ensures.value in
    let at_state = subst (λ (s : State _). OnOk c.look.result (IsFound (g.A.App.meaning shown) (g.A.Resting.covers shown) s s.pending made)) state_is c.look.ensures in
    subst (λ a. OnOk c.look.result (IsFound (g.A.App.meaning a) (g.A.Resting.covers a) run.state run.state.pending made)) c.app-app.ensures at_state
