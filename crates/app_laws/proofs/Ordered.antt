-- Executions stay orderly and fit.
use Rattle.std.proofs.Common.{◌≡◌, ◌≢◌, ℕ, zero, suc, ◌≤◌, false, List, [], ◌∷◌, ◌++◌, refl, sym, subst}
use Rattle.std.specs.List.{AllByRecursion}
use Rattle.std.specs.declared.cmp.Ordering.TheVariants.{Less}
use Rattle.plain_laws.specs.Lists.{All-weaker, All-joined, All-push}
use Rattle.task_order.specs.declared.key.Key.{Key}
use Rattle.task_order.specs.declared.start.Start.{Start}
use Rattle.task_order.specs.declared.task.Body.{Body}
use Rattle.task_order.specs.declared.task.Task.{Task}
use Rattle.task_order.specs.Key.{key_cmp, key_cmp_total, child_key}
use Rattle.task_order.specs.TaskList.{IsAscending, put_in, put_all}
use Rattle.task_order.specs.TaskListLaws.{All-put_in, All-put_all}
use Rattle.app_laws.specs.Execution.{Operator, Execution, children_from, first_from, start_of, acts, after_steps}
use Rattle.app_laws.specs.Laws.{AllFit, NoneEarlier, IsFitOutcome, IsFit}
use Rattle.app_laws.specs.Lower.{LowerLaws}
use Rattle.app_laws.specs.Order.{is_prefix, Pairwise, IsOrderly}
use Rattle.app_laws.proofs.Apart.{apart_longer, is_prefix-longer, is_prefix-longer_self, All-children, All-first, children_apart, first_apart}
use Rattle.app_laws.proofs.Lists.{Pairwise-push, Pairwise-put_in}
use Rattle.app_laws.specs.ApartLaws.{differ_from_no_prefix, TasksApart, TasksApart-turned, new_key_from_apart, IsSpread}
use Rattle.app_laws.specs.StepLaws.{after_none, after_one_more}

spread-put_in : LowerLaws → (task : Task) (tasks : List Task) → AllByRecursion (TasksApart task) tasks → IsSpread tasks → IsSpread (put_in task tasks)
spread-put_in lower task tasks apart spread = record {
  ascending = lower.puts_ascend task tasks (new_key_from_apart task tasks apart) spread.ascending;
  apart = Pairwise-put_in TasksApart TasksApart-turned task tasks apart spread.apart;
}

spread-put_all : LowerLaws → (new tasks : List Task) → Pairwise TasksApart new → AllByRecursion (λ task. AllByRecursion (TasksApart task) tasks) new → IsSpread tasks → IsSpread (put_all new tasks)
spread-put_all lower [] tasks pairs apart spread = spread
spread-put_all lower (task ∷ new) tasks pairs apart spread =
    spread-put_all lower new (put_in task tasks) pairs.1
    (All-joined (TasksApart task) (λ later. AllByRecursion (TasksApart later) tasks) (λ later. AllByRecursion (TasksApart later) (put_in task tasks))
    (λ later pair all. All-put_in (TasksApart later) task tasks (TasksApart-turned task later pair) all)
    new pairs.0 apart.1)
    (spread-put_in lower task tasks apart.0 spread)

-- a task's children are apart from the others
pub children_apart_from_others : (task : Task) (others : List Task) (children : List Start) → NoneEarlier task.key.prio children → AllByRecursion (TasksApart task) others
    → AllByRecursion (λ child. AllByRecursion (TasksApart child) others) (children_from task.key 0 children)
children_apart_from_others task others children not_earlier apart =
    let child_of = λ (number : ℕ) (child : Start). let t : Task = record { key = child_key task.key number child.prio; body = child.body } in t in
    All-children (λ t. AllByRecursion (TasksApart t) others) (λ child. task.key.prio ≤ child.prio) task.key
    (λ number child up_to. All-weaker (TasksApart task) (TasksApart (child_of number child)) (λ other. apart_longer task.key.path other.key.path number) others apart)
    0 children not_earlier

-- where the first task gives way to its children, they stay in ascending order, and apart
pub spread_next : LowerLaws → (task : Task) (others : List Task) (children : List Start) → NoneEarlier task.key.prio children → IsSpread (task ∷ others)
    → IsSpread (put_all (children_from task.key 0 children) others)
spread_next lower task others children not_earlier spread =
    spread-put_all lower (children_from task.key 0 children) others (children_apart task.key 0 children)
    (children_apart_from_others task others children not_earlier spread.apart.0)
    (record { ascending = spread.ascending.1; apart = spread.apart.1 })

-- a start is orderly
all_apart_from_none : (new : List Task) → AllByRecursion (λ task. AllByRecursion (TasksApart task) []) new
all_apart_from_none [] = tt
all_apart_from_none (task ∷ new) = (tt, all_apart_from_none new)

none_logged : (P : Task → Key × List ℕ → Type 0) (tasks : List Task) → AllByRecursion (λ task. AllByRecursion (P task) []) tasks
none_logged P [] = tt
none_logged P (task ∷ tasks) = (tt, none_logged P tasks)

pub spread_at_start : LowerLaws → (first : List Start) → IsSpread (put_all (first_from 0 first) [])
spread_at_start lower first =
    spread-put_all lower (first_from 0 first) [] (first_apart 0 first) (all_apart_from_none (first_from 0 first)) (record { ascending = tt; apart = tt })

pub start_orderly : LowerLaws → {V : Type 0} (cells : List V) (first : List Start) → IsOrderly (start_of cells first)
start_orderly lower cells first =
    let tasks = first_from 0 first in
    let spread = spread_at_start lower first in
    record {
      ascending = spread.ascending;
      apart = spread.apart;
      unlogged = none_logged (λ task entry. is_prefix task.key.path entry.0.path ≡ false) (put_all tasks []);
      after_log = none_logged (λ task entry. key_cmp entry.0 task.key ≡ Less) (put_all tasks []);
      log_ascending = tt;
      log_differs = tt;
    }

pub start_fit : {V : Type 0} (is_fit_cells : List V → Type 0) (is_fit_task : ℕ → Body → Type 0) (cells : List V) (first : List Start)
    → is_fit_cells cells → AllFit is_fit_task first → IsFit is_fit_cells is_fit_task (start_of cells first)
start_fit is_fit_cells is_fit_task cells first fit-cells fit-first =
    let P = λ (task : Task). is_fit_task task.key.prio task.body in
    record {
      cells = fit-cells;
      pending = All-put_all P (first_from 0 first) [] (All-first P (λ start. is_fit_task start.prio start.body) (λ number start fit. fit) 0 first fit-first) tt;
    }

-- a task that acts keeps the order
pub acts_orderly : LowerLaws → {V : Type 0} (act : Operator V) (e : Execution V) (task : Task) (others : List Task) → e.pending ≡ task ∷ others
    → NoneEarlier task.key.prio (act task e.cells).children → IsOrderly e → IsOrderly (acts act e (task ∷ others))
acts_orderly lower act e task others pending not_earlier orderly =
    let path = task.key.path in
    let children = (act task e.cells).children in
    let new = children_from task.key 0 children in
    let entry : Key × List ℕ = (task.key, (act task e.cells).text) in
    let UpTo = λ (start : Start). task.key.prio ≤ start.prio in
    let Logged = λ (t : Task) (old : Key × List ℕ). is_prefix t.key.path old.0.path ≡ false in
    let After = λ (t : Task) (old : Key × List ℕ). key_cmp old.0 t.key ≡ Less in
    let child_of = λ (number : ℕ) (child : Start). let t : Task = record { key = child_key task.key number child.prio; body = child.body } in t in
    let ascending = subst (λ ts. IsAscending ts) pending orderly.ascending in
    let apart = subst (λ ts. Pairwise TasksApart ts) pending orderly.apart in
    let unlogged = subst (λ ts. AllByRecursion (λ t. AllByRecursion (Logged t) e.log) ts) pending orderly.unlogged in
    let after_log = subst (λ ts. AllByRecursion (λ t. AllByRecursion (After t) e.log) ts) pending orderly.after_log in
    let spread = spread_next lower task others children not_earlier (record { ascending = ascending; apart = apart }) in
    record {
      ascending = spread.ascending;
      apart = spread.apart;
      unlogged =
          All-put_all (λ t. AllByRecursion (Logged t) (e.log ++ entry ∷ [])) new others
          (All-children (λ t. AllByRecursion (Logged t) (e.log ++ entry ∷ [])) UpTo task.key
          (λ number child up_to. All-push (Logged (child_of number child)) e.log entry
          (All-weaker (Logged task) (Logged (child_of number child)) (λ old. is_prefix-longer path old.0.path number) e.log unlogged.0)
          (is_prefix-longer_self path number))
          0 children not_earlier)
          (All-joined (TasksApart task) (λ t. AllByRecursion (Logged t) e.log) (λ t. AllByRecursion (Logged t) (e.log ++ entry ∷ []))
          (λ other pair all. All-push (Logged other) e.log entry all pair.not_after)
          others apart.0 unlogged.1);
      after_log =
          All-put_all (λ t. AllByRecursion (After t) (e.log ++ entry ∷ [])) new others
          (All-children (λ t. AllByRecursion (After t) (e.log ++ entry ∷ [])) UpTo task.key
          (λ number child up_to.
          let less = lower.children_later task.key number child.prio up_to in
          All-push (After (child_of number child)) e.log entry
          (All-weaker (After task) (After (child_of number child)) (λ old earlier. key_cmp_total.trans old.0 task.key (child_key task.key number child.prio) earlier less) e.log after_log.0)
          less)
          0 children not_earlier)
          (All-joined (λ other. key_cmp task.key other.key ≡ Less) (λ t. AllByRecursion (After t) e.log) (λ t. AllByRecursion (After t) (e.log ++ entry ∷ []))
          (λ other less all. All-push (After other) e.log entry all less)
          others ascending.0 after_log.1);
      log_ascending = Pairwise-push (λ old other. key_cmp old.0 other.0 ≡ Less) e.log entry orderly.log_ascending after_log.0;
      log_differs =
          Pairwise-push (λ old other. old.0.path ≢ other.0.path) e.log entry orderly.log_differs
          (All-weaker (Logged task) (λ old. old.0.path ≢ path) (λ old none same. differ_from_no_prefix path old.0.path none (sym same)) e.log unlogged.0);
    }

-- an operator keeps cells and tasks fit
abbrev pub KeepsFit : {V : Type 0} → (List V → Type 0) → (ℕ → Body → Type 0) → Operator V → Type 0
KeepsFit {V} is_fit_cells is_fit_task act = (task : Task) (cells : List V) → is_fit_cells cells → is_fit_task task.key.prio task.body → IsFitOutcome is_fit_cells is_fit_task (act task cells)

-- no fit task has an earlier child
abbrev pub ChildrenNotEarlier : {V : Type 0} → (List V → Type 0) → (ℕ → Body → Type 0) → Operator V → Type 0
ChildrenNotEarlier {V} is_fit_cells is_fit_task act = (task : Task) (cells : List V) → is_fit_cells cells → is_fit_task task.key.prio task.body → NoneEarlier task.key.prio (act task cells).children

pub acts_fit : {V : Type 0} (is_fit_cells : List V → Type 0) (is_fit_task : ℕ → Body → Type 0) (act : Operator V) (e : Execution V) (task : Task) (others : List Task)
    → e.pending ≡ task ∷ others → IsFitOutcome is_fit_cells is_fit_task (act task e.cells) → IsFit is_fit_cells is_fit_task e → IsFit is_fit_cells is_fit_task (acts act e (task ∷ others))
acts_fit is_fit_cells is_fit_task act e task others pending outcome fit =
    let P = λ (t : Task). is_fit_task t.key.prio t.body in
    let Q = λ (start : Start). is_fit_task start.prio start.body in
    record {
      cells = outcome.cells;
      pending =
          All-put_all P (children_from task.key 0 (act task e.cells).children) others
          (All-children P Q task.key (λ number child fit-child. fit-child) 0 (act task e.cells).children outcome.children)
          (subst (λ ts. AllByRecursion P ts) pending fit.pending).1;
    }

-- a first pending task is fit
pub fit_first : {V : Type 0} (is_fit_cells : List V → Type 0) (is_fit_task : ℕ → Body → Type 0) (e : Execution V) (task : Task) (others : List Task)
    → e.pending ≡ task ∷ others → IsFit is_fit_cells is_fit_task e → is_fit_task task.key.prio task.body
fit_first is_fit_cells is_fit_task e task others pending fit =
    (subst (λ ts. AllByRecursion (λ (t : Task). is_fit_task t.key.prio t.body) ts) pending fit.pending).0

acts_stay_fit : {V : Type 0} (is_fit_cells : List V → Type 0) (is_fit_task : ℕ → Body → Type 0) (act : Operator V) → KeepsFit is_fit_cells is_fit_task act
    → (e : Execution V) (tasks : List Task) → e.pending ≡ tasks → IsFit is_fit_cells is_fit_task e → IsFit is_fit_cells is_fit_task (acts act e tasks)
acts_stay_fit is_fit_cells is_fit_task act keeps e [] pending fit = fit
acts_stay_fit is_fit_cells is_fit_task act keeps e (task ∷ others) pending fit =
    acts_fit is_fit_cells is_fit_task act e task others pending
    (keeps task e.cells fit.cells (fit_first is_fit_cells is_fit_task e task others pending fit)) fit

pub stays_fit : {V : Type 0} (is_fit_cells : List V → Type 0) (is_fit_task : ℕ → Body → Type 0) (act : Operator V) → KeepsFit is_fit_cells is_fit_task act
    → (e : Execution V) → IsFit is_fit_cells is_fit_task e → (steps : ℕ) → IsFit is_fit_cells is_fit_task (after_steps act steps e)
stays_fit is_fit_cells is_fit_task act keeps e fit zero = rw after_none fit
stays_fit is_fit_cells is_fit_task act keeps e fit (suc steps) =
    let after = after_steps act steps e in
    rw after_one_more (acts_stay_fit is_fit_cells is_fit_task act keeps after after.pending refl (stays_fit is_fit_cells is_fit_task act keeps e fit steps))

acts_stay_orderly : LowerLaws → {V : Type 0} (is_fit_cells : List V → Type 0) (is_fit_task : ℕ → Body → Type 0) (act : Operator V) → ChildrenNotEarlier is_fit_cells is_fit_task act
    → (e : Execution V) (tasks : List Task) → e.pending ≡ tasks → IsFit is_fit_cells is_fit_task e → IsOrderly e → IsOrderly (acts act e tasks)
acts_stay_orderly lower is_fit_cells is_fit_task act not_earlier e [] pending fit orderly = orderly
acts_stay_orderly lower is_fit_cells is_fit_task act not_earlier e (task ∷ others) pending fit orderly =
    acts_orderly lower act e task others pending
    (not_earlier task e.cells fit.cells (fit_first is_fit_cells is_fit_task e task others pending fit)) orderly

pub stays_orderly : LowerLaws → {V : Type 0} (is_fit_cells : List V → Type 0) (is_fit_task : ℕ → Body → Type 0) (act : Operator V) → KeepsFit is_fit_cells is_fit_task act
    → ChildrenNotEarlier is_fit_cells is_fit_task act
    → (e : Execution V) → IsFit is_fit_cells is_fit_task e → IsOrderly e → (steps : ℕ) → IsOrderly (after_steps act steps e)
stays_orderly lower is_fit_cells is_fit_task act keeps not_earlier e fit orderly zero = rw after_none orderly
stays_orderly lower is_fit_cells is_fit_task act keeps not_earlier e fit orderly (suc steps) =
    let after = after_steps act steps e in
    rw after_one_more
    (acts_stay_orderly lower is_fit_cells is_fit_task act not_earlier after after.pending refl
    (stays_fit is_fit_cells is_fit_task act keeps e fit steps)
    (stays_orderly lower is_fit_cells is_fit_task act keeps not_earlier e fit orderly steps))
