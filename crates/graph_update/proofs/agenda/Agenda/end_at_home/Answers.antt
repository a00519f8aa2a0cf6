use Rattle.std.proofs.Common.{◌≡◌, ◌≤◌, ◌∙◌, List, Some, refl, sym, ap, subst}
use Rattle.std.specs.List.{AllByRecursion}
use Rattle.task_order.specs.declared.task.Task.{Task}
use Rattle.task_order.specs.TaskList.{put_all, without}
use Rattle.tiered_list.specs.Tiered.{Tiered}
use Rattle.cell_store.specs.Values.{AgreesWith}
use Rattle.kdg_graph.specs.declared.change.Fresh.{Fresh}
use Rattle.kdg_graph.specs.declared.node_id.NodeId.{NodeId}
use Rattle.kdg_graph.specs.Node.{Node}
use Rattle.kdg_graph.specs.Nodes.{node_at, tasks_of}
use Rattle.kdg_graph.specs.Rewrite.{AreAdded, HaveNewKeys, fresh_tasks}
use Rattle.output_log.specs.Entries.{IsNewEntry}
use Rattle.app_laws.specs.declared.child.Child.{Child}
use Rattle.app_laws.specs.Applications.{IsFitTask}
use Rattle.run_laws.specs.Events.{fresh_from, renewals}
use Rattle.graph_update.proofs.ReadyIds.{some_are_ready}
use Rattle.graph_update.proofs.TaskEnds.{counted_end, entry_is_new, fit_given, fresh_is, has_node, is_finished, known, log_is, node_is, not_over, stays_fixed, stays_ready, task_is}
use Rattle.graph_update.proofs.Touched.{tasks_after, told_of_others}
use Rattle.graph_update.proofs.agenda.Agenda.end_at_home.Goals as goal

pub task-requires : goal.task-requires
task-requires g c = has_node (c.end_basis.ensures c.args.app.now) _ _ c.requires.home.is_done

pub fresh_tasks-requires-clause-not_earlier : goal.fresh_tasks-requires-clause-not_earlier
fresh_tasks-requires-clause-not_earlier g c =
    let is = c.requires.home.is_done in
    let basis = c.end_basis.ensures c.args.app.now in
    subst (λ (children : List Child). AllByRecursion (λ child. c.task.result.now.key.prio ≤ child.prio) children) (sym c.items-children.ensures.all)
    (subst (λ (task : Task). AllByRecursion (λ child. task.key.prio ≤ child.prio) c.args.children.now) (sym (task_is basis _ _ is c.task.result.now c.task.ensures)) (known basis _ _ is).children_later)

pub set_changes-requires-clause-cells : goal.set_changes-requires-clause-cells
set_changes-requires-clause-cells g c κs within =
    let fit = fit_given (c.end_basis.ensures c.args.app.now) _ _ c.requires.home.is_done in
    (fit.0, fit.1, subst (λ cells. AgreesWith cells fit.0) (sym c.requires.home.given) fit.2)

pub rewrite-requires-clause-new : goal.rewrite-requires-clause-new
rewrite-requires-clause-new g c =
    let is = c.requires.home.is_done in
    let basis = c.end_basis.ensures c.args.app.now in
    let fresh_are = fresh_is basis _ _ is c.task.result.now c.task.ensures c.items-children.result.now c.items-children.ensures.all c.fresh_tasks.new.fresh.items c.in-Ok-fresh_tasks.ensures in
    subst (HaveNewKeys (tasks_of c.args.self.now.graph)) (sym fresh_are) (known basis _ _ is).new_keys

pub touch_end-requires-clause-ended : goal.touch_end-requires-clause-ended
touch_end-requires-clause-ended g c κs within =
    let is = c.requires.home.is_done in
    let basis = c.end_basis.ensures c.args.app.now in
    let own = task_is basis _ _ is c.in-Ok-rewrite.task c.in-Ok-rewrite.ensures.task in
    (c.in-Ok-rewrite.task.key.prio, subst (IsFitTask (g.A.App.meaning c.args.app.now)) (is.performed.task ∙ sym own) (known basis _ _ is).fit)

pub touch_end-requires-clause-children : goal.touch_end-requires-clause-children
touch_end-requires-clause-children g c κs within =
    let is = c.requires.home.is_done in
    subst (λ (children : List Child). AllByRecursion (λ child. (g.A.App.meaning c.args.app.now).is_fit_task child.prio child.body) children) (sym c.items-children.ensures.all)
    (known (c.end_basis.ensures c.args.app.now) _ _ is).children_fit

pub put-requires-clause-new : goal.put-requires-clause-new
put-requires-clause-new g c =
    let is = c.requires.home.is_done in
    let basis = c.end_basis.ensures c.args.app.now in
    let own = task_is basis _ _ is c.in-Ok-rewrite.task c.in-Ok-rewrite.ensures.task in
    subst (λ (task : Task). IsNewEntry task.key c.reserve_for.new.self.entries) (sym own)
    (subst (IsNewEntry c.requires.home.task.key) (sym c.reserve_for.ensures.entries) (entry_is_new basis _ _ is))

pub returns-in-Ok-rewrite-clause-ended : goal.returns-in-Ok-rewrite-clause-ended
returns-in-Ok-rewrite-clause-ended g c back =
    let is = back.is_done in
    let basis = c.end_basis.ensures c.args.app.now in
    let within = not_over basis _ _ is _ refl c.requires.within in
    let fresh_are = fresh_is basis _ _ is c.task.result.now c.task.ensures c.items-children.result.now c.items-children.ensures.all c.fresh_tasks.new.fresh.items c.in-Ok-fresh_tasks.ensures in
    let log_are = log_is basis _ _ is c.in-Ok-rewrite.task c.in-Ok-rewrite.ensures.task c.reserve_for.new.self.entries c.reserve_for.ensures.entries c.put.new.self.entries c.put.ensures.entries in
    let ok = λ (of : Node) (at : node_at c.args.self.now.graph c.args.node ≡ Some of).
    subst (λ (nodes : List Node). AreAdded nodes c.fresh_tasks.new.fresh.items c.rewrite.new.self) (c.in-Ok-set_changes.ensures.same of at) c.in-Ok-rewrite.ensures.ok in
    counted_end basis _ _ is (c.sound_finish_laws.ensures c.args.app.now) within c.args.store.now c.rewrite.new.self c.put.new.self.entries
    (is_finished basis _ _ is c.args.node (node_is basis _ _ is) c.args.store.now c.fresh_tasks.new.fresh.items c.rewrite.new.self c.put.new.self.entries
    _ _ back.given fresh_are c.in-Ok-rewrite.ensures.graph ok log_are refl refl)

pub returns-in-Ok-rewrite-clause-known : goal.returns-in-Ok-rewrite-clause-known
returns-in-Ok-rewrite-clause-known g c =
    let app = c.args.app.now in
    let is = c.requires.home.is_done in
    let basis = c.end_basis.ensures app in
    let graph = is.sound.keys_and_counts.graph in
    let at = c.in-Ok-rewrite.ensures.task in
    let within = not_over basis _ _ is _ refl c.requires.within in
    let finished = returns-in-Ok-rewrite-clause-ended g c c.requires.home in
    let ok = λ (of : Node) (at : node_at c.args.self.now.graph c.args.node ≡ Some of).
    subst (λ (nodes : List Node). AreAdded nodes c.fresh_tasks.new.fresh.items c.rewrite.new.self) (c.in-Ok-set_changes.ensures.same of at) c.in-Ok-rewrite.ensures.ok in
    let after = tasks_after basis c.args.self.now.graph graph c.args.node c.in-Ok-rewrite.task at (λ node. renewals (g.A.App.meaning app) c.args.store.now c.args.self.now.graph node)
    c.fresh_tasks.new.fresh.items c.rewrite.new.self ok in
    record {
      clear = some_are_ready (g.A.App.meaning app) c.rewrite.new.self c.expect_more.new.self c.args.self.now.ready.ids.items (ap (λ (ids : Tiered NodeId). ids.items) c.expect_more.ensures.ids) c.expect_more.ensures.current
          (stays_ready basis _ _ is within _ finished (c.stay_clear_laws.ensures.stay app) c.args.self.now.ready.ids.items c.requires.known.clear.clear)
          c.requires.known.clear.once;
      fixed = stays_fixed basis _ _ is within _ finished c.requires.known.fixed;
      told = subst (g.A.App.tells app c.touch_end.new.horizon) (sym (after ∙ ap (λ (fresh : List Fresh). put_all (fresh_tasks fresh) (without c.in-Ok-rewrite.task.key (tasks_of c.args.self.now.graph))) c.in-Ok-fresh_tasks.ensures))
          (told_of_others basis c.args.self.now.graph graph c.args.node c.in-Ok-rewrite.task at (g.A.App.tells app c.args.self.now.horizon)
          (λ tasks. g.A.App.tells app c.touch_end.new.horizon (put_all (fresh_tasks (fresh_from c.task.result.now.key 0 c.items-children.result.now)) tasks))
          (λ before after told. c.touch_end.ensures c.in-Ok-rewrite.task c.task.result.now.key before after refl told) c.requires.known.told);
    }
