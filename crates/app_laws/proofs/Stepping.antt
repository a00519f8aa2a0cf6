-- What a serial run of an application meets at each of its steps, where its pending tasks are under names.
use Rattle.std.proofs.Common.{◌≡◌, ℕ, ◌+◌, ◌<◌, ◌≤◌, List, [], ◌∷◌, ◌++◌, length, Some, refl, sym, ap, ◌∙◌, subst, arith}
use Rattle.std.specs.List.{AllByRecursion}
use Rattle.std.proofs.lemmas.List.{length-map}
use Rattle.plain_laws.specs.Lists.{All-weaker}
use Rattle.task_order.specs.declared.start.Start.{Start}
use Rattle.task_order.specs.declared.task.Body.{Body}
use Rattle.task_order.specs.declared.task.Task.{Task}
use Rattle.task_order.specs.TaskList.{IsNewKey, put_all}
use Rattle.output_log.specs.Entries.{joined_texts}
use Rattle.app_laws.specs.Execution.{Operator, children_from, first_from, start_of, after_steps, run_to_end, created_after}
use Rattle.app_laws.specs.Laws.{AllFit, NoneEarlier, IsFit}
use Rattle.app_laws.specs.Lower.{LowerLaws}
use Rattle.app_laws.specs.Names.{renamed}
use Rattle.app_laws.specs.Serial.{IsOverBudget}
use Rattle.app_laws.proofs.Ordered.{KeepsFit, ChildrenNotEarlier, children_apart_from_others, spread_at_start, start_fit, stays_fit}
use Rattle.app_laws.proofs.Reached.{IsReached, count_below, count_within, created_is, ends_here, over_budget, pending_next, reached_next, text_next}
use Rattle.app_laws.proofs.UnderNames.{AreUnderNames, IsNamedFirst, exact_first, none_under, under_next, under_own_names}
use Rattle.app_laws.specs.ApartLaws.{IsSpread, TasksApart, new_key_from_apart}
use Rattle.app_laws.specs.StepLaws.{after_none}

-- a fit task does the same under its name
abbrev pub SameUnder : {V : Type 0} → (List V → Type 0) → (ℕ → Body → Type 0) → Operator V → (List ℕ → List ℕ) → Type 0
SameUnder {V} is_fit_cells is_fit_task act name = (task : Task) (cells : List V) → is_fit_cells cells → is_fit_task task.key.prio task.body → act (renamed name task) cells ≡ act task cells

-- the laws of an application, and a fit start
pub record IsRunning {V : Type 0} (is_fit_cells : List V → Type 0) (is_fit_task : ℕ → Body → Type 0) (act : Operator V) (cells : List V) (first : List Start) : Type 0 where
  pub lower : LowerLaws
  pub keeps : KeepsFit is_fit_cells is_fit_task act
  pub not_earlier : ChildrenNotEarlier is_fit_cells is_fit_task act
  pub fit_cells : is_fit_cells cells
  pub fit_first : AllFit is_fit_task first

fit_after : {V : Type 0} {is_fit_cells : List V → Type 0} {is_fit_task : ℕ → Body → Type 0} {act : Operator V} {cells : List V} {first : List Start}
    → IsRunning is_fit_cells is_fit_task act cells first → (steps : ℕ) → IsFit is_fit_cells is_fit_task (after_steps act steps (start_of cells first))
fit_after {is_fit_cells} {is_fit_task} {act} {cells} {first} run =
    stays_fit is_fit_cells is_fit_task act run.keeps (start_of cells first) (start_fit is_fit_cells is_fit_task cells first run.fit_cells run.fit_first)

-- at the start the pending tasks are under their own paths
pub under_at_start : LowerLaws → {V : Type 0} (act : Operator V) (cells : List V) (first : List Start) (is_fit_cells : List V → Type 0) (is_fit_task : ℕ → Body → Type 0) (pending : List Task) → pending ≡ put_all (first_from 0 first) []
    → AreUnderNames (SameUnder is_fit_cells is_fit_task act) (after_steps act 0 (start_of cells first)).pending pending
under_at_start lower act cells first is_fit_cells is_fit_task pending puts =
    let tasks = put_all (first_from 0 first) [] in
    rw (puts, after_none) (under_own_names (λ task cells fit-cells fit-task. refl) tasks (spread_at_start lower first))

module _ {V : Type 0} {is_fit_cells : List V → Type 0} {is_fit_task : ℕ → Body → Type 0} {act : Operator V} {start-cells cells : List V} {first : List Start} {budget count : ℕ}
    (run : IsRunning is_fit_cells is_fit_task act start-cells first) (reached : IsReached act budget (start_of start-cells first) cells count) where
  pub cells_fit : is_fit_cells cells
  cells_fit = subst is_fit_cells (sym reached.cells-are) (fit_after run count).cells

  -- the task that is taken is that of the exact execution, under its name
  module _ {pending : List Task} (under : AreUnderNames (SameUnder is_fit_cells is_fit_task act) (after_steps act count (start_of start-cells first)).pending pending) {task : Task} {others : List Task} (is : pending ≡ task ∷ others) where
    abbrev exact : IsNamedFirst under.name (after_steps act count (start_of start-cells first)).pending task others
    exact = exact_first under is

    exact_fit : is_fit_task exact.first.key.prio exact.first.body
    exact_fit = (subst (λ ts. AllByRecursion (λ (t : Task). is_fit_task t.key.prio t.body) ts) exact.parts (fit_after run count).pending).0

    pub task_fit : is_fit_task task.key.prio task.body
    task_fit = subst (λ (t : Task). is_fit_task t.key.prio t.body) (sym exact.task_is) exact_fit

    pub none_earlier : NoneEarlier task.key.prio (act task cells).children
    none_earlier = run.not_earlier task cells cells_fit task_fit

    pub children_new : AllByRecursion (λ child. IsNewKey child.key others) (children_from task.key 0 (act task cells).children)
    children_new =
        All-weaker (λ child. AllByRecursion (TasksApart child) others) (λ child. IsNewKey child.key others) (λ child. new_key_from_apart child others)
        (children_from task.key 0 (act task cells).children)
        (children_apart_from_others task others (act task cells).children none_earlier (subst IsSpread is under.spread).apart.0)

    -- so it does the same
    same_outcome : act task cells ≡ act exact.first cells
    same_outcome = ap (λ t. act t cells) exact.task_is ∙ under.may exact.first cells cells_fit exact_fit

    same_children : (act task cells).children ≡ (act exact.first cells).children
    same_children = ap (λ outcome. outcome.children) same_outcome

    pub still_below : count < budget
    still_below = count_below reached refl exact.first exact.rest exact.parts

    -- how many are created, those that the task creates too
    created_now : created_after act count (start_of start-cells first) + length (act exact.first cells).children ≡ count + 1 + length others + length (act task cells).children
    created_now =
        omega (arith, created_is reached refl, ap length exact.parts, ap length exact.others_are, length-map exact.rest (renamed under.name), ap length same_children)

    pub over_next : (created : ℕ) → created ≡ count + 1 + length others + length (act task cells).children → budget < created
        → IsOverBudget act budget (start_of start-cells first) created budget
    over_next created many over = over_budget reached refl exact.first exact.rest created exact.parts (many ∙ sym created_now) over

    running_next : (cells' : List V) → cells' ≡ (act task cells).cells → count + 1 + length others + length (act task cells).children ≤ budget
        → IsReached act budget (start_of start-cells first) cells' (count + 1)
    running_next cells' cells-are within =
        reached_next reached exact.first exact.rest cells' exact.parts (cells-are ∙ ap (λ outcome. outcome.cells) same_outcome) (rw created_now within)

    under_names_next : (pending' : List Task) → pending' ≡ put_all (children_from task.key 0 (act task cells).children) others
        → AreUnderNames (SameUnder is_fit_cells is_fit_task act) (after_steps act (count + 1) (start_of start-cells first)).pending pending'
    under_names_next pending' puts =
        rw (puts, pending_next reached exact.first exact.rest exact.parts, sym same_children) (under_next under is run.lower (act task cells).children none_earlier)

    -- the run after this task
    pub stepped : (cells' : List V) (pending' : List Task) → cells' ≡ (act task cells).cells → pending' ≡ put_all (children_from task.key 0 (act task cells).children) others
        → count + 1 + length others + length (act task cells).children ≤ budget
        → IsReached act budget (start_of start-cells first) cells' (count + 1) × AreUnderNames (SameUnder is_fit_cells is_fit_task act) (after_steps act (count + 1) (start_of start-cells first)).pending pending'
    stepped cells' pending' cells-are puts within = (running_next cells' cells-are within, under_names_next pending' puts)

    pub text_written : joined_texts (after_steps act (count + 1) (start_of start-cells first)).log ≡ joined_texts (after_steps act count (start_of start-cells first)).log ++ (act task cells).text
    text_written =
        text_next reached exact.first exact.rest exact.parts
        ∙ ap (λ outcome. joined_texts (after_steps act count (start_of start-cells first)).log ++ outcome.text) (sym same_outcome)

  -- as many tasks are pending, and where none is, none is in the exact execution
  module _ {pending : List Task} (under : AreUnderNames (SameUnder is_fit_cells is_fit_task act) (after_steps act count (start_of start-cells first)).pending pending) where
    pub few_pending : count + length pending ≤ budget
    few_pending = omega (arith, count_within reached refl, ap length under.are, length-map (after_steps act count (start_of start-cells first)).pending (renamed under.name))

    pub ends_under : pending ≡ [] → run_to_end act budget (start_of start-cells first) ≡ Some (after_steps act count (start_of start-cells first))
    ends_under none = ends_here reached refl (none_under under.name (after_steps act count (start_of start-cells first)).pending (sym under.are ∙ none))
