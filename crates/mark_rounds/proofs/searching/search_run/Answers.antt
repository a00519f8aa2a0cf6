use Rattle.std.proofs.Common.{◌≡◌, OnOk, List, subst}
use Rattle.task_order.specs.declared.task.Task.{Task}
use Rattle.cell_store.specs.Values.{values_of}
use Rattle.commuting.specs.Rounds.{clear_tasks}
use Rattle.commuting.specs.States.{State, state_of}
use Rattle.mark_rounds.specs.Board.{IsAlone}
use Rattle.mark_rounds.proofs.searching.search_run.Goals as goal

pub returns-clause-found : goal.returns-clause-found
returns-clause-found g c =
    let run = c.args.run.now in
    let shown = c.app-app.result.now in
    let clear = c.find_clear.new.lists.clear.items in
    let state_is : state_of (values_of c.store-store.result.now) c.pending.result.now ≡ run.state = λ i. record { cells = c.store-store.ensures.cells i; pending = c.pending.ensures.pending i } in
    subst (λ a. OnOk c.find_clear.result (clear ≡ clear_tasks (g.A.App.meaning a) run.state)) c.app-app.ensures
    (subst (λ (s : State _). OnOk c.find_clear.result (clear ≡ clear_tasks (g.A.App.meaning shown) s)) state_is c.find_clear.ensures.found)

pub returns-clause-alone : goal.returns-clause-alone
returns-clause-alone g c =
    subst (λ a. OnOk c.find_clear.result (IsAlone (g.A.App.meaning a).count c.args.search.now.board c.find_clear.new.marker)) c.app-app.ensures c.find_clear.ensures.alone

pub returns-clause-told : goal.returns-clause-told
returns-clause-told g c =
    let run = c.args.run.now in
    let horizon = c.find_clear.new.horizon in
    subst (λ a. OnOk c.find_clear.result (g.A.App.tells a horizon run.state.pending)) c.app-app.ensures
    (subst (λ (tasks : List Task). OnOk c.find_clear.result (g.A.App.tells c.app-app.result.now horizon tasks)) c.pending.ensures.pending c.find_clear.ensures.told)
