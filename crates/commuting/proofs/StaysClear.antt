-- A clear task stays clear when another one acts that it doesn't conflict with.
use Rattle.std.proofs.Common.{◌≡◌, ◌≢◌, List, refl, sym, ap, subst, ◌∙◌, ⊎_elim}
use Rattle.std.specs.List.{AllByRecursion}
use Rattle.std.specs.declared.cmp.Ordering.TheVariants.{Less}
use Rattle.plain_laws.specs.Lists.{All-weaker, All-joined, All-filter}
use Rattle.task_order.specs.declared.task.Task.{Task}
use Rattle.task_order.specs.Key.{key_cmp}
use Rattle.task_order.specs.TaskList.{IsAscending, put_in, put_all, tasks_before}
use Rattle.task_order.specs.TaskListLaws.{All-put_all, All-put_in, all_from_put_in}
use Rattle.rw_sets.specs.Accesses.{Conflicts, merged}
use Rattle.app_laws.specs.Applications.{Application, IsFitTask, AreFitTasks, StaysSafe, set_in}
use Rattle.app_laws.specs.ApartLaws.{new_key_from_apart}
use Rattle.commuting.specs.States.{State}
use Rattle.commuting.specs.Clear.{IsUnblocked}
use Rattle.commuting.specs.Basis.{Basis}
use Rattle.commuting.proofs.Cells.{IsAside, same_set}
use Rattle.commuting.proofs.Pending.{differ_where_apart, put_in-between, before-put_all, before-put_all_later}
use Rattle.commuting.proofs.Turns.{AreIndependentBeside, aside_here, children_of, children_later, children_fit_in}
use Rattle.commuting.proofs.Runs.{turn}

module _ {V : Type 0} {app : Application V} (basis : Basis app) where
  -- a third task's set moves only within sets that don't conflict with the task's
  third_stays_apart : (acted task third : Task) (cells : List V) → IsAside app cells acted task → IsFitTask app third → third.key ≢ acted.key
      → ¬ Conflicts (set_in app cells third) (set_in app cells task)
      → ¬ Conflicts (set_in app (app.act acted cells).cells third) (set_in app (app.act acted cells).cells task)
  third_stays_apart acted task third cells aside fit differ apart conflict =
      let before = set_in app cells third in
      let with = set_in app cells acted in
      let against = set_in app cells task in
      let within = basis.lawful.sets_stay_within acted third cells aside.fit_cells aside.fit_task fit differ in
      let now = subst (λ set. Conflicts (set_in app (app.act acted cells).cells third) set) (same_set basis cells acted task aside) conflict in
      ⊎_elim
      apart
      aside.apart
      ((basis.lower.by_parts before with against
      (basis.lawful.sets_are_in_range third cells aside.fit_cells fit).ascending
      (basis.lawful.sets_are_in_range acted cells aside.fit_cells aside.fit_task).ascending).0
      (basis.lower.grows (set_in app (app.act acted cells).cells third) (merged before with) against within now))

  module _ (acted task : Task) (others : State V) (both : AreIndependentBeside app acted task others)
      (unblocked : IsUnblocked app (set_in app others.cells) (put_in acted others.pending) task) where
    abbrev AreApartNow : Task → Type 0
    AreApartNow other = ¬ Conflicts (set_in app (turn app.act acted others).cells other) (set_in app (turn app.act acted others).cells task)

    -- the other earlier tasks, which still don't conflict
    rest_apart : AllByRecursion (λ other. ¬ Conflicts (set_in app others.cells other) (set_in app others.cells task)) (tasks_before task.key others.pending)
        → AllByRecursion AreApartNow (tasks_before task.key others.pending)
    rest_apart apart =
        let earlier = tasks_before task.key others.pending in
        All-joined (IsFitTask app) (λ other. (other.key ≢ acted.key) × ¬ Conflicts (set_in app others.cells other) (set_in app others.cells task)) AreApartNow
        (λ other fit rest. third_stays_apart acted task other others.cells (aside_here basis acted task others both) fit rest.0 rest.1)
        earlier
        (All-filter (IsFitTask app) _ others.pending both.task_beside.ready.tasks)
        (All-joined (λ other. other.key ≢ acted.key) (λ other. ¬ Conflicts (set_in app others.cells other) (set_in app others.cells task)) _ (λ other differ rest. (differ, rest)) earlier
        (All-filter (λ other. other.key ≢ acted.key) _ others.pending (new_key_from_apart acted others.pending both.task_beside.apart))
        apart)

    -- where the task that acted was a later one
    unblocked_by_later : key_cmp task.key acted.key ≡ Less → IsUnblocked app (set_in app (turn app.act acted others).cells) (turn app.act acted others).pending task
    unblocked_by_later later =
        let not_earlier = λ (other : Task) (after : key_cmp task.key other.key ≡ Less) (less : key_cmp other.key task.key ≡ Less).
        basis.lower.irreflexive task.key task.key (basis.lower.transitive task.key other.key task.key after less) refl in
        let same_before = basis.lower.before_skips task.key acted others.pending (not_earlier acted later) in
        let same_now : tasks_before task.key (turn app.act acted others).pending ≡ tasks_before task.key others.pending =
        before-put_all_later basis.lower task.key (children_of app others.cells acted) others.pending
        (All-weaker (λ child. key_cmp acted.key child.key ≡ Less) (λ child. key_cmp child.key task.key ≢ Less)
        (λ child after. not_earlier child (basis.lower.transitive task.key acted.key child.key later after))
        (children_of app others.cells acted)
        (children_later basis acted others.cells both.task_beside.ready.cells both.task_beside.fit)) in
        record {
          apart = subst (λ tasks. AllByRecursion AreApartNow tasks) (sym same_now) (rest_apart (subst (λ tasks. AllByRecursion (λ other. ¬ Conflicts (set_in app others.cells other) (set_in app others.cells task)) tasks) same_before unblocked.apart));
          safe = ap (app.is_safe task) same_now ∙ ap (app.is_safe task) (sym same_before) ∙ unblocked.safe;
        }

    -- where it was an earlier one: by the law of safe tasks
    module _ (earlier : key_cmp acted.key task.key ≡ Less) where
      with_acted : tasks_before task.key (put_in acted others.pending) ≡ put_in acted (tasks_before task.key others.pending)
      with_acted = basis.lower.before_takes task.key acted others.pending earlier both.task_beside.ready.ascending

      with_children : tasks_before task.key (turn app.act acted others).pending
          ≡ put_all (tasks_before task.key (children_of app others.cells acted)) (tasks_before task.key others.pending)
      with_children = before-put_all basis.lower task.key (children_of app others.cells acted) others.pending (children_fit_in basis acted others both.task_beside)

      stays_safe : StaysSafe app task (tasks_before task.key (children_of app others.cells acted)) (tasks_before task.key others.pending) (app.act acted others.cells).cells
      stays_safe =
          let rest = tasks_before task.key others.pending in
          let split = put_in-between acted rest in
          let fit = All-put_in (IsFitTask app) acted rest both.task_beside.fit (All-filter (IsFitTask app) _ others.pending both.task_beside.ready.tasks) in
          let new = All-filter (λ other. other.key ≢ acted.key) _ others.pending (new_key_from_apart acted others.pending both.task_beside.apart) in
          let ascending = basis.lower.puts_ascend acted rest new (basis.lower.before_ascends task.key others.pending both.task_beside.ready.ascending) in
          let all_earlier = All-put_in (λ other. key_cmp other.key task.key ≡ Less) acted rest earlier (basis.lower.before_is_earlier task.key others.pending) in
          subst (λ tasks. StaysSafe app task (tasks_before task.key (children_of app others.cells acted)) tasks (app.act acted others.cells).cells) (sym split.2)
          (basis.lawful.safe_tasks_stay_safe task acted split.0 split.1 others.cells both.task_beside.ready.cells both.other_beside.fit
          (subst (λ tasks. AreFitTasks app tasks) split.3 fit)
          (subst IsAscending split.3 ascending)
          (subst (λ tasks. AllByRecursion (λ other. key_cmp other.key task.key ≡ Less) tasks) split.3 all_earlier)
          (ap (app.is_safe task) (sym split.3) ∙ ap (app.is_safe task) (sym with_acted) ∙ unblocked.safe)
          both.sets_apart)

      unblocked_by_earlier : IsUnblocked app (set_in app (turn app.act acted others).cells) (turn app.act acted others).pending task
      unblocked_by_earlier =
          let was_apart = subst (λ tasks. AllByRecursion (λ other. ¬ Conflicts (set_in app others.cells other) (set_in app others.cells task)) tasks) with_acted unblocked.apart in
          let rest = (all_from_put_in (λ other. ¬ Conflicts (set_in app others.cells other) (set_in app others.cells task)) acted (tasks_before task.key others.pending) was_apart).1 in
          record {
            apart = subst (λ tasks. AllByRecursion AreApartNow tasks) (sym with_children) (All-put_all AreApartNow _ _ stays_safe.apart (rest_apart rest));
            safe = ap (app.is_safe task) with_children ∙ stays_safe.safe;
          }

    pub stays_unblocked : IsUnblocked app (set_in app (turn app.act acted others).cells) (turn app.act acted others).pending task
    stays_unblocked =
        ⊎_elim
        unblocked_by_earlier
        unblocked_by_later
        (basis.lower.connected acted.key task.key (differ_where_apart acted task both.paths_apart))
