-- The children of a task that acts.
use Rattle.std.proofs.Common.{◌≡◌, ℕ, ◌+◌, ◌<◌, ◌≤◌, ◌^◌, List, [], ◌∷◌, ◌++◌, length, map, refl, sym, ap, ◌∙◌, subst, arith}
use Rattle.std.specs.Prelude.{Contains}
use Rattle.std.specs.List.{AllByRecursion}
use Rattle.std.proofs.lemmas.List.{length-map}
use Rattle.std.proofs.lemmas.List.Sorted.{IsPermutation-sym}
use Rattle.plain_laws.specs.Lists.{All-filter}
use Rattle.plain_laws.specs.Members.{all_at}
use Rattle.task_order.specs.declared.key.Key.{Key}
use Rattle.task_order.specs.declared.start.Start.{Start}
use Rattle.task_order.specs.declared.task.Task.{Task}
use Rattle.task_order.specs.Key.{child_key}
use Rattle.task_order.specs.TaskList.{HasDistinctKeys, IsNewKey, put_all, without}
use Rattle.task_order.specs.TaskListLaws.{All-put_all}
use Rattle.app_laws.specs.declared.child.Child.{Child}
use Rattle.app_laws.specs.Applications.{Application, AreFitStarts, IsFitTask, handed, starts_of}
use Rattle.app_laws.specs.Execution.{children_from}
use Rattle.app_laws.specs.TaskLaws.{length-children_from, all_children}
use Rattle.commuting.specs.Clear.{IsReady}
use Rattle.commuting.specs.States.{State, after_task}
use Rattle.list_rounds.specs.Basis.{Basis}
use Rattle.list_rounds.proofs.Lists.{new_in_front}

module _ {V : Type 0} (app : Application V) (cells : List V) where
  -- children that are handed over are the operator's
  starts_of_handed : (starts : List Start) → starts_of (map (handed app cells) starts) ≡ starts
  starts_of_handed [] = refl
  starts_of_handed (start ∷ starts) = ap (λ rest. start ∷ rest) (starts_of_handed starts)

  handed_fit : (starts : List Start) → AreFitStarts app starts → AllByRecursion (λ (child : Child). app.is_fit_task child.prio child.body) (map (handed app cells) starts)
  handed_fit [] all = tt
  handed_fit (start ∷ starts) all = (all.0, handed_fit starts all.1)

  handed_not_earlier : (prio : ℕ) (starts : List Start) → AllByRecursion (λ (start : Start). prio ≤ start.prio) starts → AllByRecursion (λ (child : Child). prio ≤ child.prio) (map (handed app cells) starts)
  handed_not_earlier prio [] none = tt
  handed_not_earlier prio (start ∷ starts) none = (none.0, handed_not_earlier prio starts none.1)

-- children that come in are pending beside the others
pub put_length : {V : Type 0} {app : Application V} → Basis app → (parent : Key) (children : List Child) (rest : List Task) → length (put_all (children_from parent 0 (starts_of children)) rest) ≡ length rest + length children
put_length basis parent children rest =
    let put = basis.put_all_adds (children_from parent 0 (starts_of children)) rest in
    let made = length-children_from parent 0 (starts_of children) in
    let each = length-map children (λ (child : Child). let start : Start = record { prio = child.prio; body = child.body } in start) in
    omega (arith, put, made, each)

module _ {V : Type 0} {app : Application V} (basis : Basis app) {state : State V} (ready : IsReady app state) {task : Task} (there : Contains state.pending task) where
  pub fit : IsFitTask app task
  fit = all_at (IsFitTask app) state.pending task ready.tasks there

  -- what holds of each pending task's key, and then of those of its children, holds of all that are pending once the task has acted
  pub all_after : (P : Key → Type 0) → ((parent : Key) (number prio : ℕ) → parent.prio ≤ prio → P parent → P (child_key parent number prio))
      → AllByRecursion (λ (other : Task). P other.key) state.pending → AllByRecursion (λ (other : Task). P other.key) (after_task app.act task state).pending
  all_after P each all =
      let Own = λ (other : Task). P other.key in
      let own = all_at Own state.pending task all there in
      All-put_all Own (children_from task.key 0 (app.act task state.cells).children) (without task.key state.pending)
      (all_children P task.key (λ number prio later. each task.key number prio later own) 0 (app.act task state.cells).children (basis.lawful.children_come_no_earlier task state.cells ready.cells fit))
      (All-filter Own _ state.pending all)

  -- the children as they are handed over
  module _ (children : List Child) (are : children ≡ map (handed app (app.act task state.cells).cells) (app.act task state.cells).children) where
    pub starts_are : starts_of children ≡ (app.act task state.cells).children
    starts_are = ap starts_of are ∙ starts_of_handed app (app.act task state.cells).cells (app.act task state.cells).children

    pub as_many : length children ≡ length (app.act task state.cells).children
    as_many = ap length are ∙ length-map (app.act task state.cells).children (handed app (app.act task state.cells).cells)

    pub fit_children : AllByRecursion (λ (child : Child). app.is_fit_task child.prio child.body) children
    fit_children = subst (AllByRecursion (λ (child : Child). app.is_fit_task child.prio child.body)) (sym are)
        (handed_fit app (app.act task state.cells).cells (app.act task state.cells).children (basis.lawful.acts_are_fit task state.cells ready.cells fit).children)

    pub few : length children < 2 ^ 32
    few = let fits = (basis.lawful.acts_are_fit task state.cells ready.cells fit).few in omega (arith, as_many, fits)

    pub not_earlier : AllByRecursion (λ (child : Child). task.key.prio ≤ child.prio) children
    not_earlier = subst (AllByRecursion (λ (child : Child). task.key.prio ≤ child.prio)) (sym are)
        (handed_not_earlier app (app.act task state.cells).cells task.key.prio (app.act task state.cells).children (basis.lawful.children_come_no_earlier task state.cells ready.cells fit))

    pub new_keys : AllByRecursion (λ (child : Task). IsNewKey child.key (without task.key state.pending)) (children_from task.key 0 (starts_of children))
    new_keys =
        let starts = (app.act task state.cells).children in
        let new = children_from task.key 0 starts in
        let rest = without task.key state.pending in
        let distinct : HasDistinctKeys (new ++ rest) =
        basis.distinct_in_any_order (put_all new rest) (new ++ rest) (basis.distinct (put_all new rest) (basis.stays_ready state task ready there).ascending)
        (IsPermutation-sym (new ++ rest) (put_all new rest) (basis.put_all_keeps new rest)) in
        subst (λ (s : List Start). AllByRecursion (λ (child : Task). IsNewKey child.key rest) (children_from task.key 0 s)) (sym starts_are) (new_in_front new rest distinct)

    -- where the task has acted, its children and the others are pending
    pub pending_after : length (after_task app.act task state).pending ≡ length (without task.key state.pending) + length children
    pending_after =
        let starts = (app.act task state.cells).children in
        let put = basis.put_all_adds (children_from task.key 0 starts) (without task.key state.pending) in
        let made = length-children_from task.key 0 starts in
        omega (arith, put, made, as_many)
