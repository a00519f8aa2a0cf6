-- A task that acts beside others, and two that act in either order.
use Rattle.std.proofs.Common.{◌≡◌, ◌≢◌, ℕ, suc, ◌≤◌, List, [], ◌∷◌, sym, ap, ◌∙◌}
use Rattle.std.specs.List.{AllByRecursion}
use Rattle.std.specs.declared.cmp.Ordering.TheVariants.{Less}
use Rattle.plain_laws.specs.Lists.{All-weaker, All-swapped}
use Rattle.task_order.specs.declared.key.Key.{Key}
use Rattle.task_order.specs.declared.start.Start.{Start}
use Rattle.task_order.specs.declared.task.Task.{Task}
use Rattle.task_order.specs.Key.{key_cmp}
use Rattle.task_order.specs.TaskList.{IsNewKey, put_all}
use Rattle.task_order.specs.TaskListLaws.{All-put_all}
use Rattle.rw_sets.specs.Accesses.{Conflicts}
use Rattle.app_laws.specs.Applications.{Application, IsFitTask, AreFitTasks, AreFitStarts, set_in}
use Rattle.app_laws.specs.Execution.{children_from}
use Rattle.app_laws.specs.ApartLaws.{TasksApart, TasksApart-turned}
use Rattle.commuting.specs.States.{State, state_of}
use Rattle.commuting.specs.Clear.{IsReady}
use Rattle.commuting.specs.Basis.{Basis, LowerLaws}
use Rattle.commuting.proofs.Cells.{IsAside, same_cells, same_outcome, aside_turned}
use Rattle.commuting.proofs.Pending.{differ_where_apart, FitIn, spread-put_all, put_all-put_all}
use Rattle.commuting.proofs.Runs.{turn}

later_from : LowerLaws → (parent : Key) (number : ℕ) (children : List Start) → AllByRecursion (λ child. parent.prio ≤ child.prio) children
    → AllByRecursion (λ child. key_cmp parent child.key ≡ Less) (children_from parent number children)
later_from lower parent number [] up_to = tt
later_from lower parent number (child ∷ children) up_to = (lower.children_later parent number child.prio up_to.0, later_from lower parent (suc number) children up_to.1)

module _ {V : Type 0} (app : Application V) where
  -- the children of a task that acts on the cells
  abbrev pub children_of : List V → Task → List Task
  children_of cells task = children_from task.key 0 (app.act task cells).children

  -- a task that is pending beside these others
  pub record IsBeside (task : Task) (others : State V) : Type 0 where
    pub ready : IsReady app others
    pub fit : IsFitTask app task
    pub apart : AllByRecursion (TasksApart task) others.pending

  -- two tasks beside the same others that don't conflict
  pub record AreIndependentBeside (task other : Task) (others : State V) : Type 0 where
    pub task_beside : IsBeside task others
    pub other_beside : IsBeside other others
    pub paths_apart : TasksApart task other
    pub sets_apart : ¬ Conflicts (set_in app others.cells task) (set_in app others.cells other)

module _ {V : Type 0} {app : Application V} (basis : Basis app) where
  -- the first of the pending tasks, beside the others
  pub beside_rest : (cells : List V) (task : Task) (others : List Task) → IsReady app (state_of cells (task ∷ others))
      → IsBeside app task (state_of cells others)
  beside_rest cells task others ready = record {
    ready = record { cells = ready.cells; tasks = ready.tasks.1; ascending = ready.ascending.1; apart = ready.apart.1 };
    fit = ready.tasks.0;
    apart = ready.apart.0;
  }

  fit_from : (parent : Key) (number : ℕ) (children : List Start) → AreFitStarts app children → AreFitTasks app (children_from parent number children)
  fit_from parent number [] fit = tt
  fit_from parent number (child ∷ children) fit = (fit.0, fit_from parent (suc number) children fit.1)

  pub children_later : (task : Task) (cells : List V) → app.is_fit_cells cells → IsFitTask app task → AllByRecursion (λ child. key_cmp task.key child.key ≡ Less) (children_of app cells task)
  children_later task cells fit_cells fit = later_from basis.lower task.key 0 (app.act task cells).children (basis.lawful.children_come_no_earlier task cells fit_cells fit)

  pub children_fit : (task : Task) (cells : List V) → app.is_fit_cells cells → IsFitTask app task → AreFitTasks app (children_of app cells task)
  children_fit task cells fit_cells fit = fit_from task.key 0 (app.act task cells).children (basis.lawful.acts_are_fit task cells fit_cells fit).children

  pub children_apart : (task : Task) (cells : List V) (other : Task) → TasksApart task other → AllByRecursion (λ child. TasksApart child other) (children_of app cells task)
  children_apart task cells other apart = basis.lower.children_apart task.key (app.act task cells).children other.key.path apart

  -- their keys are new to another task and its children
  pub children_new : (task : Task) (cells : List V) (other : Task) → TasksApart task other → IsNewKey other.key (children_of app cells task)
  children_new task cells other apart =
      All-weaker (λ child. TasksApart child other) (λ child. child.key ≢ other.key) (λ child. differ_where_apart child other) (children_of app cells task) (children_apart task cells other apart)

  children_differ : (task other : Task) (cells cells' : List V) → TasksApart task other → AllByRecursion (λ child. IsNewKey child.key (children_of app cells' other)) (children_of app cells task)
  children_differ task other cells cells' apart =
      All-weaker (λ child. TasksApart child other) (λ child. IsNewKey child.key (children_of app cells' other))
      (λ child away. children_new other cells' child (TasksApart-turned child other away))
      (children_of app cells task) (children_apart task cells other apart)

  pub children_fit_in : (task : Task) (others : State V) → IsBeside app task others → FitIn (children_of app others.cells task) others.pending
  children_fit_in task others beside = record {
    spread = record { ascending = beside.ready.ascending; apart = beside.ready.apart };
    siblings = basis.lower.siblings_apart task.key (app.act task others.cells).children;
    apart =
        All-swapped TasksApart (children_of app others.cells task) others.pending
        (All-weaker (TasksApart task) (λ other. AllByRecursion (λ child. TasksApart child other) (children_of app others.cells task)) (λ other. children_apart task others.cells other) others.pending beside.apart);
  }

  -- what it leaves is ready again, and the others stay beside it
  pub ready_turn : (task : Task) (others : State V) → IsBeside app task others → IsReady app (turn app.act task others)
  ready_turn task others beside =
      let spread = spread-put_all basis.lower (children_of app others.cells task) others.pending (children_fit_in task others beside) in
      record {
        cells = (basis.lawful.acts_are_fit task others.cells beside.ready.cells beside.fit).cells;
        tasks = All-put_all (IsFitTask app) (children_of app others.cells task) others.pending (children_fit task others.cells beside.ready.cells beside.fit) beside.ready.tasks;
        ascending = spread.ascending;
        apart = spread.apart;
      }

  pub beside_turn : (task other : Task) (others : State V) → IsBeside app task others → IsBeside app other others → TasksApart task other → IsBeside app other (turn app.act task others)
  beside_turn task other others beside other_beside apart = record {
    ready = ready_turn task others beside;
    fit = other_beside.fit;
    apart =
        All-put_all (TasksApart other) (children_of app others.cells task) others.pending
        (All-weaker (λ child. TasksApart child other) (TasksApart other) (λ child. TasksApart-turned child other) (children_of app others.cells task) (children_apart task others.cells other apart))
        other_beside.apart;
  }

  pub aside_here : (task other : Task) (others : State V) → AreIndependentBeside app task other others → IsAside app others.cells task other
  aside_here task other others both = record {
    fit_cells = both.task_beside.ready.cells;
    fit_task = both.task_beside.fit;
    fit_other = both.other_beside.fit;
    apart = both.sets_apart;
  }

  -- they act in either order
  pub turns_commute : (task other : Task) (others : State V) → AreIndependentBeside app task other others
      → turn app.act other (turn app.act task others) ≡ turn app.act task (turn app.act other others)
  turns_commute task other others both =
      let cells = others.cells in
      let aside = aside_here task other others both in
      let turned = aside_turned basis cells task other aside in
      let first = children_of app cells task in
      let second = children_of app cells other in
      let cells-are = same_cells basis cells task other aside in
      let pending-are : put_all (children_of app (app.act task cells).cells other) (put_all first others.pending) ≡ put_all (children_of app (app.act other cells).cells task) (put_all second others.pending) =
      ap (λ children. put_all (children_from other.key 0 children) (put_all first others.pending)) (sym (same_outcome basis cells task other aside).children)
      ∙ put_all-put_all basis.lower second first others.pending (children_differ other task cells cells (TasksApart-turned task other both.paths_apart))
      ∙ ap (λ children. put_all (children_from task.key 0 children) (put_all second others.pending)) (same_outcome basis cells other task turned).children in
      λ i. state_of (cells-are i) (pending-are i)
