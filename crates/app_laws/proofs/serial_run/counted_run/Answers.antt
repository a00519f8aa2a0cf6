use Rattle.std.proofs.Common.{◌≡◌, ◌≤◌, List, [], ◌++◌, length, refl, sym, ap, ◌∙◌, subst, arith}
use Rattle.std.specs.List.{AllByRecursion}
use Rattle.std.proofs.lemmas.Result.{err_from_is_err_and}
use Rattle.plain_laws.specs.Options.{where_none}
use Rattle.task_order.specs.declared.start.Start.{Start}
use Rattle.task_order.specs.TaskList.{IsNewKey, put_all}
use Rattle.output_log.specs.Entries.{joined_texts}
use Rattle.cell_store.specs.Values.{homes, values_of}
use Rattle.app_laws.specs.Applications.{AreFitStarts, IsLawful, starts_of}
use Rattle.app_laws.specs.Execution.{children_from, first_from, start_of}
use Rattle.app_laws.specs.Lower.{LowerLaws}
use Rattle.app_laws.proofs.Reached.{IsReached, reached_at_start, over_at_start, counted}
use Rattle.app_laws.proofs.Running.{keeps_fit, not_earlier, starts_of_handed, length-handed, handed_not_earlier}
use Rattle.app_laws.proofs.Stepping.{IsRunning, cells_fit, task_fit, none_earlier, children_new, ends_under, few_pending, over_next, stepped, still_below, text_written, under_at_start}
use Rattle.app_laws.proofs.UnderNames.{still_under_names}
use Rattle.app_laws.proofs.serial_run.counted_run.Given.{Over}
use Rattle.app_laws.proofs.serial_run.counted_run.Goals as goal
use Rattle.app_laws.specs.StepLaws.{after_none}

running : (g : Over) → LowerLaws → (app : g.row.A.Denot) → IsLawful (g.A.App.meaning app) → (cells : List g.row.A-Val.Denot) (first : List Start) → (g.A.App.meaning app).is_fit_cells cells → AreFitStarts (g.A.App.meaning app) first
    → IsRunning (g.A.App.meaning app).is_fit_cells (g.A.App.meaning app).is_fit_task (g.A.App.meaning app).act cells first
running g lower app lawful cells first fit-cells fit-first = record {
  lower = lower;
  keeps = keeps_fit (g.A.App.meaning app) lawful;
  not_earlier = not_earlier (g.A.App.meaning app) lawful;
  fit_cells = fit-cells;
  fit_first = fit-first;
}

pub returns-in_err-within-clause-fault : goal.returns-in_err-within-clause-fault
returns-in_err-within-clause-fault g c =
    let over = c.in_err-within.ensures.over in
    let e = err_from_is_err_and c.from_residual.result c.from_residual.ensures.1 in
    rw (e.1, e.2, over.0) (over_at_start _ _ _ _ _ (ap length c.items-starts.ensures) over.1)

pub loop-task-init : goal.loop-task-init
loop-task-init g c =
    let values : values_of c.in_ok-store.store ≡ c.args.cells.items = ap values_of c.in_ok-store.ensures ∙ c.value_laws.ensures.values.values_of_homes c.args.cells.items in
    record {
      reached = subst (λ cells. IsReached (g.A.App.meaning c.args.app.now).act c.args.budget (start_of c.args.cells.items c.args.first) cells 0) (sym values)
          (reached_at_start (g.A.App.meaning c.args.app.now).act c.args.budget c.args.cells.items c.args.first (omega (arith, ap length c.items-starts.ensures, c.in_ok-within.ensures.ok)));
      under = under_at_start c.lower_laws.ensures (g.A.App.meaning c.args.app.now).act c.args.cells.items c.args.first _ _ c.in_ok-pending.pending
          (c.in_ok-pending.ensures.tasks ∙ ap (λ first. put_all (first_from 0 first) []) c.items-starts.ensures);
      home = c.in_ok-store.ensures ∙ ap homes (sym values);
      text = c.new-text.ensures ∙ sym (ap (λ e. joined_texts e.log) (after_none _ _));
      since = omega arith;
    }

pub act-requires-clause-fit : goal.act-requires-clause-fit
act-requires-clause-fit g c κs within =
    task_fit (running g c.lower_laws.ensures c.args.app.now (c.lawful.ensures c.args.app.now) c.args.cells.items c.args.first c.requires.fit_cells c.requires.fit_first) c.loop-task.invariant.reached c.loop-task.invariant.under c.in-Some.ensures.first

pub act-requires-clause-cells : goal.act-requires-clause-cells
act-requires-clause-cells g c κs within =
    cells_fit (running g c.lower_laws.ensures c.args.app.now (c.lawful.ensures c.args.app.now) c.args.cells.items c.args.first c.requires.fit_cells c.requires.fit_first) c.loop-task.invariant.reached

pub returns-clause-fit : goal.returns-clause-fit
returns-clause-fit g c =
    cells_fit (running g c.lower_laws.ensures c.args.app.now (c.lawful.ensures c.args.app.now) c.args.cells.items c.args.first c.requires.fit_cells c.requires.fit_first) c.loop-task.invariant.reached

pub returns-in_err-within-2-clause-fault : goal.returns-in_err-within-2-clause-fault
returns-in_err-within-2-clause-fault g c =
    let over = c.in_err-within-2.ensures.over in
    let e = err_from_is_err_and c.from_residual-in_err-within-2.result c.from_residual-in_err-within-2.ensures.1 in
    let app = g.A.App.meaning c.args.app.now in
    let outcome = app.act c.in-Some.task (values_of c.loop-task.store) in
    rw (e.1, e.2, over.0)
    (over_next (running g c.lower_laws.ensures c.args.app.now (c.lawful.ensures c.args.app.now) c.args.cells.items c.args.first c.requires.fit_cells c.requires.fit_first) c.loop-task.invariant.reached c.loop-task.invariant.under c.in-Some.ensures.first _
    (omega (arith, ap length (c.items-made.ensures.all ∙ c.in_ok-children.ensures.children), length-handed app outcome.cells outcome.children)) over.1)

pub put_children-requires-clause-not_earlier : goal.put_children-requires-clause-not_earlier
put_children-requires-clause-not_earlier g c =
    let app = g.A.App.meaning c.args.app.now in
    let outcome = app.act c.in-Some.task (values_of c.loop-task.store) in
    subst (λ made. AllByRecursion (λ child. c.in-Some.task.key.prio ≤ child.prio) made) (sym (c.items-made.ensures.all ∙ c.in_ok-children.ensures.children))
    (handed_not_earlier app outcome.cells c.in-Some.task.key.prio outcome.children
    (none_earlier (running g c.lower_laws.ensures c.args.app.now (c.lawful.ensures c.args.app.now) c.args.cells.items c.args.first c.requires.fit_cells c.requires.fit_first) c.loop-task.invariant.reached c.loop-task.invariant.under c.in-Some.ensures.first))

pub put_children-requires-clause-new : goal.put_children-requires-clause-new
put_children-requires-clause-new g c =
    let app = g.A.App.meaning c.args.app.now in
    let outcome = app.act c.in-Some.task (values_of c.loop-task.store) in
    subst (λ starts. AllByRecursion (λ task. IsNewKey task.key c.take_first.new.self) (children_from c.in-Some.task.key 0 starts))
    (sym (ap starts_of (c.items-made.ensures.all ∙ c.in_ok-children.ensures.children) ∙ starts_of_handed app outcome.cells outcome.children))
    (children_new (running g c.lower_laws.ensures c.args.app.now (c.lawful.ensures c.args.app.now) c.args.cells.items c.args.first c.requires.fit_cells c.requires.fit_first) c.loop-task.invariant.reached c.loop-task.invariant.under c.in-Some.ensures.first)

pub overflow_add-count : goal.overflow_add-count
overflow_add-count g c =
    omega (arith, still_below (running g c.lower_laws.ensures c.args.app.now (c.lawful.ensures c.args.app.now) c.args.cells.items c.args.first c.requires.fit_cells c.requires.fit_first) c.loop-task.invariant.reached c.loop-task.invariant.under c.in-Some.ensures.first, c.requires.budget)

pub overflow_add-count-in-Some : goal.overflow_add-count-in-Some
overflow_add-count-in-Some g c =
    omega (arith, still_below (running g c.lower_laws.ensures c.args.app.now (c.lawful.ensures c.args.app.now) c.args.cells.items c.args.first c.requires.fit_cells c.requires.fit_first) c.loop-task.invariant.reached c.loop-task.invariant.under c.in-Some.ensures.first, c.requires.budget)

pub overflow_add-count-in-Some-2 : goal.overflow_add-count-in-Some-2
overflow_add-count-in-Some-2 g c =
    omega (arith, still_below (running g c.lower_laws.ensures c.args.app.now (c.lawful.ensures c.args.app.now) c.args.cells.items c.args.first c.requires.fit_cells c.requires.fit_first) c.loop-task.invariant.reached c.loop-task.invariant.under c.in-Some.ensures.first, c.requires.budget)

pub loop-task-smaller : goal.loop-task-smaller
loop-task-smaller g c =
    omega (arith, still_below (running g c.lower_laws.ensures c.args.app.now (c.lawful.ensures c.args.app.now) c.args.cells.items c.args.first c.requires.fit_cells c.requires.fit_first) c.loop-task.invariant.reached c.loop-task.invariant.under c.in-Some.ensures.first)

pub overflow_add-since : goal.overflow_add-since
overflow_add-since g c =
    omega (arith, c.loop-task.invariant.since, still_below (running g c.lower_laws.ensures c.args.app.now (c.lawful.ensures c.args.app.now) c.args.cells.items c.args.first c.requires.fit_cells c.requires.fit_first) c.loop-task.invariant.reached c.loop-task.invariant.under c.in-Some.ensures.first, c.requires.budget)

pub shortened-requires-clause-few : goal.shortened-requires-clause-few
shortened-requires-clause-few g c =
    let app = g.A.App.meaning c.args.app.now in
    let outcome = app.act c.in-Some.task (values_of c.loop-task.store) in
    let values : values_of c.act.new.store ≡ outcome.cells = ap values_of c.in_ok-children.ensures.store ∙ c.value_laws.ensures.values.values_of_homes outcome.cells in
    let children = c.items-made.ensures.all ∙ c.in_ok-children.ensures.children in
    let next =
    stepped (running g c.lower_laws.ensures c.args.app.now (c.lawful.ensures c.args.app.now) c.args.cells.items c.args.first c.requires.fit_cells c.requires.fit_first) c.loop-task.invariant.reached c.loop-task.invariant.under c.in-Some.ensures.first
    (values_of c.act.new.store) c.put_children.new.pending values
    (c.in_ok-put_children.ensures.put ∙ ap (λ starts. put_all (children_from c.in-Some.task.key 0 starts) c.take_first.new.self) (ap starts_of children ∙ starts_of_handed app outcome.cells outcome.children))
    (omega (arith, c.in_ok-within-2.ensures.ok, ap length children, length-handed app outcome.cells outcome.children)) in
    omega (arith, few_pending (running g c.lower_laws.ensures c.args.app.now (c.lawful.ensures c.args.app.now) c.args.cells.items c.args.first c.requires.fit_cells c.requires.fit_first) next.0 next.1, c.requires.budget)

pub shortened-requires-clause-apart : goal.shortened-requires-clause-apart
shortened-requires-clause-apart g c =
    let app = g.A.App.meaning c.args.app.now in
    let outcome = app.act c.in-Some.task (values_of c.loop-task.store) in
    let values : values_of c.act.new.store ≡ outcome.cells = ap values_of c.in_ok-children.ensures.store ∙ c.value_laws.ensures.values.values_of_homes outcome.cells in
    let children = c.items-made.ensures.all ∙ c.in_ok-children.ensures.children in
    let next =
    stepped (running g c.lower_laws.ensures c.args.app.now (c.lawful.ensures c.args.app.now) c.args.cells.items c.args.first c.requires.fit_cells c.requires.fit_first) c.loop-task.invariant.reached c.loop-task.invariant.under c.in-Some.ensures.first
    (values_of c.act.new.store) c.put_children.new.pending values
    (c.in_ok-put_children.ensures.put ∙ ap (λ starts. put_all (children_from c.in-Some.task.key 0 starts) c.take_first.new.self) (ap starts_of children ∙ starts_of_handed app outcome.cells outcome.children))
    (omega (arith, c.in_ok-within-2.ensures.ok, ap length children, length-handed app outcome.cells outcome.children)) in
    λ κs lives. next.1.spread.apart

pub loop-task-preserved : goal.loop-task-preserved
loop-task-preserved g c =
    let app = g.A.App.meaning c.args.app.now in
    let outcome = app.act c.in-Some.task (values_of c.loop-task.store) in
    let values : values_of c.act.new.store ≡ outcome.cells = ap values_of c.in_ok-children.ensures.store ∙ c.value_laws.ensures.values.values_of_homes outcome.cells in
    let children = c.items-made.ensures.all ∙ c.in_ok-children.ensures.children in
    let next =
    stepped (running g c.lower_laws.ensures c.args.app.now (c.lawful.ensures c.args.app.now) c.args.cells.items c.args.first c.requires.fit_cells c.requires.fit_first) c.loop-task.invariant.reached c.loop-task.invariant.under c.in-Some.ensures.first
    (values_of c.act.new.store) c.put_children.new.pending values
    (c.in_ok-put_children.ensures.put ∙ ap (λ starts. put_all (children_from c.in-Some.task.key 0 starts) c.take_first.new.self) (ap starts_of children ∙ starts_of_handed app outcome.cells outcome.children))
    (omega (arith, c.in_ok-within-2.ensures.ok, ap length children, length-handed app outcome.cells outcome.children)) in
    record {
      reached = next.0;
      under = still_under_names (λ ignored name task cells fit-cells fit-task. ignored.acts task (name task.key.path) cells fit-cells fit-task) c.lower_laws.ensures _ c.put_children.new.pending c.shortened.new.pending next.1 c.in_ok-since.ensures.pending;
      home = c.in_ok-children.ensures.store ∙ ap homes (sym values);
      text =
          c.in_ok-append.ensures
          ∙ (λ i. c.loop-task.invariant.text i ++ c.in_ok-children.ensures.text i)
          ∙ sym (text_written (running g c.lower_laws.ensures c.args.app.now (c.lawful.ensures c.args.app.now) c.args.cells.items c.args.first c.requires.fit_cells c.requires.fit_first) c.loop-task.invariant.reached c.loop-task.invariant.under c.in-Some.ensures.first);
      since = omega (arith, c.in_ok-since.ensures.since, c.loop-task.invariant.since);
    }

pub returns-clause-run : goal.returns-clause-run
returns-clause-run g c =
    record {
      end = _;
      ends = ends_under (running g c.lower_laws.ensures c.args.app.now (c.lawful.ensures c.args.app.now) c.args.cells.items c.args.first c.requires.fit_cells c.requires.fit_first) c.loop-task.invariant.reached c.loop-task.invariant.under (where_none c.take_first.result (c.loop-task.pending ≡ []) c.in_default.not-Some c.take_first.ensures.empty);
      store = c.loop-task.invariant.home ∙ ap homes c.loop-task.invariant.reached.cells-are;
      text = c.loop-task.invariant.text;
      count = counted c.loop-task.invariant.reached refl;
    }
