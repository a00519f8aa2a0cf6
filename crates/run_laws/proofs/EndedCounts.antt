-- The counts, the log and the keys after the end of a task.
use Rattle.std.proofs.Common.{◌≡◌, ◌≢◌, ℕ, suc, ◌+◌, ◌<◌, List, ◌++◌, length, sym, ap, subst, ◌∙◌, arith}
use Rattle.std.specs.List.{AllByRecursion}
use Rattle.plain_laws.specs.Lists.{All-parts, All-filter, All-weaker, All-joined, All-swapped}
use Rattle.task_order.specs.declared.key.Key.{Key}
use Rattle.task_order.specs.declared.task.Task.{Task}
use Rattle.task_order.specs.Key.{at_key}
use Rattle.task_order.specs.TaskList.{without}
use Rattle.task_order.specs.TaskListLaws.{All-put_all}
use Rattle.output_log.specs.Entries.{Entry, IsInKeyOrder, entries_before, entries_from, with_entry}
use Rattle.kdg_graph.specs.Nodes.{tasks_of}
use Rattle.app_laws.specs.Applications.{Application, handed}
use Rattle.app_laws.specs.Execution.{children_from}
use Rattle.app_laws.specs.Order.{Pairwise}
use Rattle.app_laws.specs.ApartLaws.{TasksApart, apart_from_put_in}
use Rattle.app_laws.specs.TaskLaws.{length-children_from}
use Rattle.commuting.specs.States.{after_task}
use Rattle.crew.specs.Jobs.{IsPerformed}
use Rattle.run_laws.specs.Jobs.{Done, Job}
use Rattle.run_laws.specs.FinishBasis.{FinishBasis}
use Rattle.run_laws.specs.Finishes.{IsEnd}
use Rattle.run_laws.specs.Progress.{Progress, whole_state}
use Rattle.run_laws.specs.Sound.{IsSound, KeysAndCounts}
use Rattle.run_laws.proofs.Ended.{tasks_after}
use Rattle.run_laws.proofs.Performed.{IsUnlogged, new_entry, path_differs, performed_node, restored, tasks_unlogged}
use Rattle.run_laws.proofs.FinishTasks.{all-inserted, pairwise-inserted, length-inserted, length-mapped}

module _ {V : Type 0} {app : Application V} (basis : FinishBasis app) where
  module _ (key : Key) (text : List ℕ) (log : List Entry) (ordered : IsInKeyOrder log) where
    parts : log ≡ entries_before (at_key key) log ++ entries_from (at_key key) log
    parts = basis.earlier_first (at_key key) log ordered

    pub all-with_entry : (P : Entry → Type 0) → P (key, text) → AllByRecursion P log → AllByRecursion P (with_entry key text log)
    all-with_entry P one all = all-inserted P (entries_before (at_key key) log) (key, text) (entries_from (at_key key) log) one (subst (AllByRecursion P) parts all)

    differs-with_entry : AllByRecursion (λ entry. entry.0.path ≢ key.path) log → Pairwise (λ entry other. entry.0.path ≢ other.0.path) log
        → Pairwise (λ entry other. entry.0.path ≢ other.0.path) (with_entry key text log)
    differs-with_entry new pairs =
        let front = entries_before (at_key key) log in
        let back = entries_from (at_key key) log in
        let both : AllByRecursion (λ (entry : Entry). entry.0.path ≢ key.path) front × AllByRecursion (λ (entry : Entry). entry.0.path ≢ key.path) back =
        All-parts (λ (entry : Entry). entry.0.path ≢ key.path) front back (subst (AllByRecursion (λ (entry : Entry). entry.0.path ≢ key.path)) parts new) in
        pairwise-inserted (λ (entry other : Entry). entry.0.path ≢ other.0.path) front (key, text) back both.0
        (All-weaker (λ (entry : Entry). entry.0.path ≢ key.path) (λ (entry : Entry). key.path ≢ entry.0.path) (λ entry differ same. differ (sym same)) back both.1)
        (subst (Pairwise (λ (entry other : Entry). entry.0.path ≢ other.0.path)) parts pairs)

    pub length-with_entry : length (with_entry key text log) ≡ suc (length log)
    length-with_entry = length-inserted (entries_before (at_key key) log) (key, text) (entries_from (at_key key) log) ∙ ap (λ (entries : List Entry). suc (length entries)) (sym parts)

  module _ {old : Progress V} {done : Done V} {job : Job V} {jobs others : List (Job V)} {values : List V} (sound : IsSound app old jobs values) (performed : IsPerformed app jobs done job others) where
    -- where the task acts, it leaves, and its children come in
    pub pending_after : length (after_task app.act job.task (whole_state old values)).pending + 1 ≡ length old.nodes + length done.effect.children
    pending_after =
        let starts = (app.act job.task values).children in
        let others = without job.task.key (tasks_of old.nodes) in
        let put = basis.adds_each (children_from job.task.key 0 starts) others in
        let made = length-children_from job.task.key 0 starts in
        let left : length others + 1 ≡ length old.nodes = sym (basis.puts_add_one job.task others) ∙ ap length (restored basis sound performed) ∙ length-mapped (λ node. node.task) old.nodes in
        let handed_over : length done.effect.children ≡ length starts =
        ap (λ (effect : _). length effect.children) (performed_node basis sound performed).effect ∙ length-mapped (handed app (app.act job.task values).cells) starts in
        omega (arith, put, made, left, handed_over)

  module _ {old now : Progress V} {done : Done V} {job : Job V} {jobs others : List (Job V)} {values : List V} (end : IsEnd app old jobs values done job others now) where
    pub log_is : now.log ≡ with_entry job.task.key done.effect.text old.log
    log_is = ap (λ (progress : Progress V). progress.log) end.finished.after ∙ ap (λ (task : Task). with_entry task.key done.effect.text old.log) (sym end.performed.task)

    rest_unlogged : AllByRecursion (λ task. AllByRecursion (IsUnlogged task) (with_entry job.task.key done.effect.text old.log)) (without job.task.key (tasks_of old.nodes))
    rest_unlogged =
        All-joined (TasksApart job.task) (λ task. AllByRecursion (IsUnlogged task) old.log) (λ task. AllByRecursion (IsUnlogged task) (with_entry job.task.key done.effect.text old.log))
        (λ task apart all. all-with_entry job.task.key done.effect.text old.log end.sound.keys_and_counts.log_ordered (IsUnlogged task) apart.not_after all)
        (without job.task.key (tasks_of old.nodes))
        (apart_from_put_in job.task (without job.task.key (tasks_of old.nodes)) (subst (Pairwise TasksApart) (sym (restored basis end.sound end.performed)) end.sound.ready.apart))
        (All-filter (λ task. AllByRecursion (IsUnlogged task) old.log) _ (tasks_of old.nodes) end.sound.keys_and_counts.unlogged)

    children_unlogged : AllByRecursion (λ task. AllByRecursion (IsUnlogged task) (with_entry job.task.key done.effect.text old.log)) (children_from job.task.key 0 (app.act job.task values).children)
    children_unlogged =
        let starts = (app.act job.task values).children in
        let each : AllByRecursion (λ (entry : Entry). AllByRecursion (λ (child : Task). IsUnlogged child entry) (children_from job.task.key 0 starts)) (with_entry job.task.key done.effect.text old.log) =
        all-with_entry job.task.key done.effect.text old.log end.sound.keys_and_counts.log_ordered (λ (entry : Entry). AllByRecursion (λ (child : Task). IsUnlogged child entry) (children_from job.task.key 0 starts))
        (basis.children_go_on job.task.key starts)
        (All-weaker (IsUnlogged job.task) (λ (entry : Entry). AllByRecursion (λ (child : Task). IsUnlogged child entry) (children_from job.task.key 0 starts))
        (λ entry none. basis.children_new job.task.key starts entry.0.path none) old.log (tasks_unlogged basis end.sound end.performed)) in
        All-swapped IsUnlogged (children_from job.task.key 0 starts) (with_entry job.task.key done.effect.text old.log) each

    unlogged_after : AllByRecursion (λ task. AllByRecursion (IsUnlogged task) now.log) (tasks_of now.nodes)
    unlogged_after =
        subst (λ log. AllByRecursion (λ task. AllByRecursion (IsUnlogged task) log) (tasks_of now.nodes)) (sym log_is)
        (subst (AllByRecursion (λ task. AllByRecursion (IsUnlogged task) (with_entry job.task.key done.effect.text old.log))) (sym (tasks_after basis end))
        (All-put_all (λ task. AllByRecursion (IsUnlogged task) (with_entry job.task.key done.effect.text old.log)) (children_from job.task.key 0 (app.act job.task values).children) (without job.task.key (tasks_of old.nodes)) children_unlogged rest_unlogged))

    nodes_after : length now.nodes + 1 ≡ length old.nodes + length done.effect.children
    nodes_after = omega (arith, sym (length-mapped (λ node. node.task) now.nodes), ap length (tasks_after basis end), pending_after end.sound end.performed)

    pub counts_after : KeysAndCounts app now
    counts_after =
        let counts = end.sound.keys_and_counts in
        let created_is : now.created ≡ old.created + length done.effect.children = ap (λ (progress : Progress V). progress.created) end.finished.after in
        let ended_is : now.ended ≡ suc old.ended = ap (λ (progress : Progress V). progress.ended) end.finished.after in
        let limit_is : now.limit ≡ old.limit = ap (λ (progress : Progress V). progress.limit) end.finished.after in
        let logged_is : length now.log ≡ suc (length old.log) = ap length log_is ∙ length-with_entry job.task.key done.effect.text old.log counts.log_ordered in
        let nodes_are = nodes_after in
        let was_created = counts.created in
        let was_logged = counts.logged in
        let not_over : old.limit < old.created + length done.effect.children → ⊥ = end.within in
        record {
          graph = end.finished.graph;
          log_ordered = subst IsInKeyOrder (sym log_is) (basis.entries_in_order job.task.key done.effect.text old.log (new_entry basis end.sound end.performed) counts.log_ordered);
          log_differs =
              subst (Pairwise (λ entry other. entry.0.path ≢ other.0.path)) (sym log_is)
              (differs-with_entry job.task.key done.effect.text old.log counts.log_ordered
              (All-weaker (IsUnlogged job.task) (λ (entry : Entry). entry.0.path ≢ job.task.key.path) (λ entry none. path_differs job.task entry none) old.log (tasks_unlogged basis end.sound end.performed))
              counts.log_differs);
          unlogged = unlogged_after;
          created = omega (arith, created_is, ended_is, nodes_are, was_created);
          within = omega (arith, created_is, limit_is, not_over);
          logged = omega (arith, logged_is, ended_is, was_logged);
        }
