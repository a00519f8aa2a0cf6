use Rattle.std.proofs.Common.{◌≡◌, ◌≤◌, List, [], length, refl, sym, ap, ◌∙◌, subst}
use Rattle.std.proofs.lemmas.Result.{err_from_is_err_and}
use Rattle.task_order.specs.declared.start.Start.{Start}
use Rattle.task_order.specs.TaskList.{put_all}
use Rattle.app_laws.specs.Execution.{first_from}
use Rattle.cell_store.specs.Values.{values_of}
use Rattle.commuting.specs.States.{State, state_of}
use Rattle.list_rounds.specs.declared.parts.RunParts.{RunParts}
use Rattle.list_rounds.specs.Course.{HasCome}
use Rattle.list_rounds.specs.Rounds.{RoundsState, start_state}
use Rattle.list_rounds.proofs.Course.{start_is, starts_have_come, too_many_at_start}
use Rattle.list_rounds.proofs.rounds.ListRounds.begin.Goals as goal

pub returns-in_err-within-clause-fault : goal.returns-in_err-within-clause-fault
returns-in_err-within-clause-fault g c =
    let over = c.in_err-within.ensures.over in
    let e = err_from_is_err_and c.from_residual.result c.from_residual.ensures.1 in
    rw (e.1, e.2, over.0)
    (too_many_at_start (c.basis.ensures c.args.app.now) c.args.cells.items c.args.first c.args.budget _ c.requires.fit_cells c.requires.fit_first (ap length c.items-starts.ensures) over.1)

pub invariant_of-result : goal.invariant_of-result
invariant_of-result g c =
    let start = start_state c.args.cells.items c.args.first in
    let same : start_state c.of-first_cells.result.value.items c.of-begun.result.value ≡ start =
    ap (λ (cells : _). start_state cells.items c.of-begun.result.value) c.of-first_cells.ensures ∙ ap (start_state c.args.cells.items) c.of-begun.ensures in
    let parts : RunParts g.row.A-Val.Denot = record { store = c.in_ok-store.store; pending = c.in_ok-pending.pending; log = c.new.result; text = c.new-2.result; ended = 0 } in
    subst (λ (from : State g.row.A-Val.Denot). HasCome (g.A.App.meaning c.args.app.now) from c.args.budget 0 parts) (sym same)
    (starts_have_come (c.basis.ensures c.args.app.now) c.args.cells.items c.args.first c.args.budget parts c.requires.fit_cells c.requires.fit_first c.in_ok-store.ensures
    (c.in_ok-pending.ensures.tasks ∙ ap (λ (first : List Start). put_all (first_from 0 first) []) c.items-starts.ensures)
    c.new.ensures c.new-2.ensures refl (subst (λ (first : List Start). length first ≤ c.args.budget) c.items-starts.ensures c.in_ok-within.ensures.ok) c.requires.budget)

pub returns-clause-begun : goal.returns-clause-begun
returns-clause-begun g c =
    let start = start_state c.args.cells.items c.args.first in
    let same : start_state c.of-first_cells.result.value.items c.of-begun.result.value ≡ start =
    ap (λ (cells : _). start_state cells.items c.of-begun.result.value) c.of-first_cells.ensures ∙ ap (start_state c.args.cells.items) c.of-begun.ensures in
    let at : State g.row.A-Val.Denot → State g.row.A-Val.Denot → RoundsState g.row.A.Denot g.row.A-Val.Denot =
    λ from state. record { app = c.args.app.now; start = from; limit = c.args.budget; rounds = 0; state = state; ended = 0 } in
    ap (λ (from : State g.row.A-Val.Denot). at from (state_of (values_of c.in_ok-store.store) c.in_ok-pending.pending)) same
    ∙ ap (at start) (start_is (c.basis.ensures c.args.app.now) c.args.cells.items c.args.first c.in_ok-store.store c.in_ok-pending.pending c.in_ok-store.ensures
    (c.in_ok-pending.ensures.tasks ∙ ap (λ (first : List Start). put_all (first_from 0 first) []) c.items-starts.ensures))
