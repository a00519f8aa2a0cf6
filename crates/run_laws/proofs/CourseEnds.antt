-- What the end of a task, and one that is over the limit, leave where an execution has come.
use Rattle.std.proofs.Common.{◌≡◌, ◌⊎◌, inr, ⊎_elim, ℕ, suc, ◌+◌, ◌-◌, ◌≤◌, ◌<◌, true, List, [], ◌∷◌, ◌++◌, length, None, refl, sym, ap, subst, ◌∙◌, arith}
use Rattle.std.specs.List.{AllByRecursion}
use Rattle.std.specs.declared.cmp.Ordering.TheVariants.{Less}
use Rattle.plain_laws.specs.Members.{all_at}
use Rattle.plain_laws.specs.Lists.{All-filter}
use Rattle.task_order.specs.declared.key.Key.{Key}
use Rattle.task_order.specs.declared.task.Task.{Task}
use Rattle.task_order.specs.Key.{child_key, end, key_cmp}
use Rattle.task_order.specs.TaskList.{without}
use Rattle.task_order.specs.TaskListLaws.{All-put_all}
use Rattle.output_log.specs.Entries.{Entry, joined_by_key, with_entry}
use Rattle.output_log.specs.EntryLaws.{AreBefore}
use Rattle.kdg_graph.specs.Nodes.{tasks_of}
use Rattle.app_laws.specs.Applications.{Application}
use Rattle.app_laws.specs.Execution.{children_from}
use Rattle.app_laws.specs.Order.{is_prefix}
use Rattle.app_laws.specs.ApartLaws.{is_prefix-joined}
use Rattle.app_laws.specs.TaskLaws.{all_children}
use Rattle.commuting.specs.Clear.{IsClear}
use Rattle.commuting.specs.Standing.{ComeBefore, StandsFor}
use Rattle.commuting.specs.States.{State, after_task, run_from}
use Rattle.crew.specs.declared.answers.FinishFault.TheVariants as fault
use Rattle.crew.specs.declared.answers.OverCause.TheVariants as cause
use Rattle.crew.specs.Jobs.{IsPerformed}
use Rattle.run_laws.specs.Course.{ComesOf, HasCome}
use Rattle.run_laws.specs.CourseBasis.{CourseBasis}
use Rattle.run_laws.specs.CourseLaws.{EndsKeepCourse, PassedLimitsKeepCourse, PassedLimitsNeverEnd, RefusalsKeepCourse}
use Rattle.run_laws.specs.Events.{IsOverLimit, budget_marked}
use Rattle.run_laws.specs.Finishes.{IsEnd}
use Rattle.run_laws.specs.Jobs.{Done, Job}
use Rattle.run_laws.specs.Progress.{Progress, whole_state}
use Rattle.run_laws.proofs.Behind.{earlier_by_order, earlier_than_later, put_behind}
use Rattle.run_laws.proofs.ClearNodes.{recorded_sets_suffice}
use Rattle.run_laws.proofs.Course.{either_mark, kept, mark_kept, unchanged}
use Rattle.run_laws.proofs.Ended.{tasks_after, whole_after}
use Rattle.run_laws.proofs.EndedCounts.{all-with_entry, length-with_entry, log_is, pending_after}
use Rattle.run_laws.proofs.FinishTasks.{prefixes_follow}
use Rattle.run_laws.proofs.Marks.{marks_and_drains_keep_sound}
use Rattle.run_laws.proofs.Performed.{fit_task, is_pending, named, performed_node}

module _ {V : Type 0} {app : Application V} (basis : CourseBasis app) where
  -- what came of some tasks, its children came of
  child_comes_of : (tasks : List Task) (parent : Key) (number prio : ℕ) → parent.prio ≤ prio → ComesOf tasks parent → ComesOf tasks (child_key parent number prio)
  child_comes_of tasks parent number prio later (first, has, comes) =
      let less = basis.children_later parent number prio later in
      let goes_on = is_prefix-joined parent.path (number ∷ []) in (
        first,
        has,
        inr (⊎_elim
            (λ (same : first.key ≡ parent). (ap (λ (key : Key). key_cmp key (child_key parent number prio)) same ∙ less, ap (λ (key : Key). is_prefix key.path (child_key parent number prio).path) same ∙ goes_on))
            (λ (longer : (key_cmp first.key parent ≡ Less) × (is_prefix first.key.path parent.path ≡ true)).
            (basis.begun.lower.transitive first.key parent (child_key parent number prio) longer.0 less, prefixes_follow first.key.path parent.path (child_key parent number prio).path longer.1 goes_on))
            comes),
      )

  -- ---- a performed job

  module _ {start now : Progress V} {cells : List V} {before entries : List Entry} {done : Done V} {job : Job V} {jobs others : List (Job V)} {values : List V}
      (come : HasCome app start cells before entries now jobs values) (performed : IsPerformed app jobs done job others) where
    -- the state once its task has acted, and the entries then
    abbrev state_after : State V
    state_after = after_task app.act job.task (whole_state now values)

    abbrev entries_after : List Entry
    entries_after = with_entry job.task.key (app.act job.task values).text entries

    clear : IsClear app (whole_state now values) job.task
    clear =
        let node = named basis.ended come.sound performed in
        subst (IsClear app (whole_state now values)) node.2.task
        ((recorded_sets_suffice basis.begun).running now jobs values node.0 come.sound (performed_node basis.ended come.sound performed).there node.2.running)

    stands_after : StandsFor app (whole_state start cells) entries_after state_after
    stands_after = basis.acts (whole_state start cells) (whole_state now values) entries job.task come.stands clear

    one_more : length entries_after ≡ suc (length entries)
    one_more = length-with_entry basis.ended job.task.key (app.act job.task values).text entries come.stands.ordered

    -- what holds of each pending task's key, and then of those of its children, holds of all that are pending once the task has acted
    all_after : (P : Key → Type 0) → ((parent : Key) (number prio : ℕ) → parent.prio ≤ prio → P parent → P (child_key parent number prio))
        → AllByRecursion (λ (task : Task). P task.key) (tasks_of now.nodes) → AllByRecursion (λ (task : Task). P task.key) state_after.pending
    all_after P each all =
        let Own = λ (task : Task). P task.key in
        let own = all_at Own (tasks_of now.nodes) job.task all (is_pending basis.ended come.sound performed) in
        let not_earlier = basis.begun.lawful.children_come_no_earlier job.task values come.sound.ready.cells (fit_task basis.ended come.sound performed) in
        All-put_all Own (children_from job.task.key 0 (app.act job.task values).children) (without job.task.key (tasks_of now.nodes))
        (all_children P job.task.key (λ number prio later. each job.task.key number prio later own) 0 (app.act job.task values).children not_earlier)
        (All-filter Own _ (tasks_of now.nodes) all)

    earlier_after : ComeBefore before state_after.pending
    earlier_after = all_after (λ (key : Key). AreBefore key before) (λ parent number prio later. earlier_than_later basis.begun.lower before parent (child_key parent number prio) (basis.children_later parent number prio later)) come.earlier

    descend_after : AllByRecursion (λ (task : Task). ComesOf (tasks_of start.nodes) task.key) state_after.pending
    descend_after = all_after (ComesOf (tasks_of start.nodes)) (child_comes_of (tasks_of start.nodes)) come.tasks_descend

    logged_after : joined_by_key start.log entries_after ≡ before ++ with_entry job.task.key (app.act job.task values).text now.log
    logged_after =
        let key = job.task.key in
        let text = (app.act job.task values).text in
        let own = all_at (λ (task : Task). AreBefore task.key before) (tasks_of now.nodes) job.task come.earlier (is_pending basis.ended come.sound performed) in
        (basis.joins_take_puts key text start.log entries).1 come.stands.ordered ∙ ap (with_entry key text) come.logged ∙ put_behind key text before now.log (earlier_by_order key before own)

    never_ends : IsOverLimit app now done → run_from app.act (start.limit - start.ended) end (whole_state start cells) ≡ None
    never_ends over =
        let counts = come.sound.keys_and_counts in
        let some = (performed_node basis.ended come.sound performed).there.1 in
        let pending = pending_after basis.ended come.sound performed in
        basis.too_many (whole_state start cells) state_after entries_after stands_after (start.limit - start.ended)
        (omega (arith, come.ended, come.limit, counts.created, counts.within, one_more, some))
        (omega (arith, over, come.ended, come.limit, counts.created, counts.within, one_more, pending))

    over_limit : IsOverLimit app now done → HasCome app start cells before entries (budget_marked app now done) jobs values
    over_limit over =
        let new = cause.Budget (now.created + length done.effect.children) now.limit in
        kept app start cells before entries now (budget_marked app now done) jobs jobs values come
        ((marks_and_drains_keep_sound basis.begun).over_limit now done jobs values come.sound) refl refl refl refl
        (λ created limit is. ⊎_elim (come.true_mark created limit) (λ same. true_now created limit same) (either_mark now.over new (cause.Budget created limit) is))
      where
        budgets : {a b c d : ℕ} → cause.Budget a b ≡ cause.Budget c d → (a ≡ c) × (b ≡ d)
        budgets same = (cc, cc)

        true_now : (created limit : ℕ) → cause.Budget (now.created + length done.effect.children) now.limit ≡ cause.Budget created limit
            → (limit ≡ start.limit) × (limit < created) × (run_from app.act (start.limit - start.ended) end (whole_state start cells) ≡ None)
        true_now created limit same =
            let parts = budgets same in
            (sym parts.1 ∙ come.limit, omega (arith, over, parts.0, parts.1), never_ends over)

  pub passed_limits_never_end : PassedLimitsNeverEnd app
  passed_limits_never_end start cells before entries now done job jobs others values come performed over = never_ends come performed over

  pub passed_limits_keep_course : PassedLimitsKeepCourse app
  passed_limits_keep_course start cells before entries now done job jobs others values come performed over = over_limit come performed over

  pub refusals_keep_course : RefusalsKeepCourse app
  refusals_keep_course start cells before entries old now done (fault.Budget back created limit) job jobs others values come performed refused =
      unchanged app start cells before entries (budget_marked app old done) now jobs values refused.4 (over_limit come performed refused.1)
  refusals_keep_course start cells before entries old now done (fault.NoRoom back) job jobs others values come performed refused = unchanged app start cells before entries old now jobs values refused.2 come

  -- ---- the end of its task

  pub ends_keep_course : EndsKeepCourse app
  ends_keep_course start cells before entries old now done job jobs others values come performed within finished =
      let key = job.task.key in
      let text = (app.act job.task values).text in
      let end : IsEnd app old jobs values done job others now = record { sound = come.sound; performed = performed; within = within; finished = finished } in
      let tasks = tasks_after basis.ended end in
      let log : now.log ≡ with_entry key text old.log = log_is basis.ended end ∙ ap (λ (effect : _). with_entry key effect.text old.log) (performed_node basis.ended come.sound performed).effect in
      record {
        sound = basis.finishes_sound old now done job jobs others values come.sound performed within finished;
        stands = subst (StandsFor app (whole_state start cells) (entries_after come performed)) (sym (whole_after basis.ended end)) (stands_after come performed);
        logged = logged_after come performed ∙ ap (λ log. before ++ log) (sym log);
        earlier = subst (ComeBefore before) (sym tasks) (earlier_after come performed);
        ended = ap (λ (progress : Progress V). progress.ended) finished.after ∙ omega (arith, come.ended, one_more come performed);
        limit = ap (λ (progress : Progress V). progress.limit) finished.after ∙ come.limit;
        true_mark = mark_kept app start cells old now (ap (λ (progress : Progress V). progress.over) finished.after) come.true_mark;
        entries_descend =
            let Descends = λ (entry : Entry). ComesOf (tasks_of start.nodes) entry.0 in
            let own = all_at (λ (task : Task). ComesOf (tasks_of start.nodes) task.key) (tasks_of old.nodes) job.task come.tasks_descend (is_pending basis.ended come.sound performed) in
            all-with_entry basis.ended key text entries come.stands.ordered Descends own come.entries_descend;
        tasks_descend = subst (AllByRecursion (λ (task : Task). ComesOf (tasks_of start.nodes) task.key)) (sym tasks) (descend_after come performed);
      }
