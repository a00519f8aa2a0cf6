-- Runs, by their first step, and what they log.
use Rattle.std.proofs.Common.{◌≡◌, inl, inr, arith, ℕ, zero, suc, ◌+◌, ◌≤◌, Bool, true, false, not, cond, List, [], ◌∷◌, ◌++◌, Option, Some, None, refl, sym, ap, ◌∙◌, subst, append_assoc, append-nil, add-zero, add-suc}
use Rattle.std.specs.List.{AllByRecursion, list_any}
use Rattle.std.specs.Option.{option_map, option_or}
use Rattle.std.specs.declared.cmp.Ordering.TheVariants.{Less}
use Rattle.std.proofs.lemmas.Bool.{true≢false, or_parts, or_from, cases_Bool, not-true}
use Rattle.plain_laws.specs.Lists.{All-push, filter-all, filter-none}
use Rattle.task_order.specs.declared.task.Body.{Body}
use Rattle.task_order.specs.declared.task.Task.{Task}
use Rattle.task_order.specs.Key.{Bound, end, key_cmp, is_before, child_key}
use Rattle.task_order.specs.TaskList.{IsAscending}
use Rattle.task_order.specs.TaskListLaws.{All-put_all}
use Rattle.task_order.specs.KeyLaws.{not_before_later}
use Rattle.output_log.specs.Entries.{Entry, is_entry_before, entries_before}
use Rattle.output_log.specs.EntryLaws.{front_is_before}
use Rattle.app_laws.specs.Execution.{Operator, Execution, children_from, acts, step, after_steps, is_clear_before, steps_until, run_until, run_to_end}
use Rattle.app_laws.specs.Laws.{RunsBeginWithAStep, GreaterLimitsAgree, LogsGrowAtTheEnd, BoundedRunsLogAPart, IsFit}
use Rattle.app_laws.specs.Lower.{LowerLaws}
use Rattle.app_laws.specs.Order.{IsOrderly}
use Rattle.app_laws.proofs.Apart.{All-children}
use Rattle.app_laws.proofs.Ordered.{KeepsFit, ChildrenNotEarlier, fit_first, acts_fit, acts_orderly}
use Rattle.app_laws.specs.StepLaws.{after_one_more}

after_first : {V : Type 0} (act : Operator V) (steps : ℕ) (e : Execution V) → after_steps act (suc steps) e ≡ after_steps act steps (step act e)
unfolding after_steps
after_first act zero e = refl
after_first act (suc steps) e = ap (step act) (after_first act steps e)

later_answer : (clear last : Bool) (found : Option ℕ) (limit : ℕ)
    → option_or (cond clear (Some 0) (option_map suc found)) (cond last (Some (suc limit)) None)
    ≡ cond clear (Some 0) (option_map suc (option_or found (cond last (Some limit) None)))
later_answer true last found limit = refl
later_answer false true None limit = refl
later_answer false false None limit = refl
later_answer false last (Some n) limit = refl

until_first : {V : Type 0} (act : Operator V) (limit : ℕ) (bound : Bound) (e : Execution V)
    → steps_until act (suc limit) bound e ≡ cond (is_clear_before bound e) (Some 0) (option_map suc (steps_until act limit bound (step act e)))
unfolding steps_until after_steps
until_first act zero bound e = later_answer (is_clear_before bound e) (is_clear_before bound (step act e)) None 0
until_first act (suc limit) bound e =
    (λ i. option_or (until_first act limit bound e i) (cond (is_clear_before bound (after_first act (suc limit) e i)) (Some (suc (suc limit))) None))
    ∙ later_answer (is_clear_before bound e) (is_clear_before bound (after_steps act (suc limit) (step act e))) (steps_until act limit bound (step act e)) (suc limit)

first_answer : {V : Type 0} (act : Operator V) (e : Execution V) (clear : Bool) (found : Option ℕ)
    → option_map (λ steps. after_steps act steps e) (cond clear (Some 0) (option_map suc found))
    ≡ cond clear (Some e) (option_map (λ steps. after_steps act steps (step act e)) found)
unfolding after_steps
first_answer act e true found = refl
first_answer act e false None = refl
first_answer act e false (Some steps) = ap Some (after_first act steps e)

run_first : {V : Type 0} (act : Operator V) (limit : ℕ) (bound : Bound) (e : Execution V)
    → run_until act (suc limit) bound e ≡ cond (is_clear_before bound e) (Some e) (run_until act limit bound (step act e))
run_first act limit bound e =
    ap (option_map (λ steps. after_steps act steps e)) (until_first act limit bound e)
    ∙ first_answer act e (is_clear_before bound e) (steps_until act limit bound (step act e))

none_answer : {V : Type 0} (act : Operator V) (e : Execution V) (clear : Bool) → option_map (λ steps. after_steps act steps e) (cond clear (Some 0) None) ≡ cond clear (Some e) None
unfolding after_steps
none_answer act e true = refl
none_answer act e false = refl

run_zero : {V : Type 0} (act : Operator V) (bound : Bound) (e : Execution V) → run_until act zero bound e ≡ cond (is_clear_before bound e) (Some e) None
unfolding steps_until
run_zero act bound e = none_answer act e (is_clear_before bound e)

run_clear : {V : Type 0} (act : Operator V) (limit : ℕ) (bound : Bound) (e : Execution V) → is_clear_before bound e ≡ true → run_until act limit bound e ≡ Some e
run_clear act zero bound e clear = run_zero act bound e ∙ ap (λ b. cond b (Some e) None) clear
run_clear act (suc limit) bound e clear = run_first act limit bound e ∙ ap (λ b. cond b (Some e) (run_until act limit bound (step act e))) clear

run_busy : {V : Type 0} (act : Operator V) (limit : ℕ) (bound : Bound) (e : Execution V) → is_clear_before bound e ≡ false → run_until act (suc limit) bound e ≡ run_until act limit bound (step act e)
run_busy act limit bound e busy = run_first act limit bound e ∙ ap (λ b. cond b (Some e) (run_until act limit bound (step act e))) busy

run_refused : {V : Type 0} (act : Operator V) (bound : Bound) (e : Execution V) → is_clear_before bound e ≡ false → run_until act 0 bound e ≡ None
run_refused act bound e busy = run_zero act bound e ∙ ap (λ b. cond b (Some e) None) busy

pub runs_begin : {V : Type 0} (act : Operator V) (e : Execution V) → RunsBeginWithAStep act e
runs_begin act e bound = (λ clear limit. run_clear act limit bound e clear, λ busy. (run_refused act bound e busy, λ limit. run_busy act limit bound e busy))

never_some : {V : Type 0} (e : Execution V) (run : Option (Execution V)) → run ≡ None → run ≡ Some e → ⊥
never_some e run none some = absurd (cc)

one_answer : {V : Type 0} (e f : Execution V) (run : Option (Execution V)) → run ≡ Some e → run ≡ Some f → e ≡ f
one_answer e f run is other = cc

greater_limit : {V : Type 0} (act : Operator V) (limit more : ℕ) (bound : Bound) (e last : Execution V) (clear : Bool) → is_clear_before bound e ≡ clear
    → run_until act limit bound e ≡ Some last → run_until act (limit + more) bound e ≡ Some last
greater_limit act limit more bound e last true clear is = run_clear act (limit + more) bound e clear ∙ sym (run_clear act limit bound e clear) ∙ is
greater_limit act zero more bound e last false busy is = absurd (never_some last (run_until act 0 bound e) (run_refused act bound e busy) is)
greater_limit act (suc limit) more bound e last false busy is =
    let turned : suc limit + more ≡ suc (limit + more) = omega arith in
    let next = step act e in
    ap (λ n. run_until act n bound e) turned ∙ run_busy act (limit + more) bound e busy
    ∙ greater_limit act limit more bound next last (is_clear_before bound next) refl (sym (run_busy act limit bound e busy) ∙ is)

pub greater_limits_agree : {V : Type 0} (act : Operator V) (e : Execution V) → GreaterLimitsAgree act e
greater_limits_agree act e limit more bound last is = greater_limit act limit more bound e last (is_clear_before bound e) refl is

-- what one step logs comes at the end
acts_grow : {V : Type 0} (act : Operator V) (e : Execution V) (tasks : List Task) → (rest : List Entry) × ((acts act e tasks).log ≡ e.log ++ rest)
acts_grow act e [] = ([], sym (append-nil e.log))
acts_grow act e (task ∷ others) = ((task.key, (act task e.cells).text) ∷ [], refl)

pub logs_grow : {V : Type 0} (act : Operator V) (e : Execution V) → LogsGrowAtTheEnd act e
logs_grow act e steps zero = ([], ap (λ n. (after_steps act n e).log) (add-zero steps) ∙ sym (append-nil (after_steps act steps e).log))
logs_grow act e steps (suc more) =
    let before = logs_grow act e steps more in
    let middle = after_steps act (steps + more) e in
    let one = acts_grow act middle middle.pending in (
      before.0 ++ one.0,
      ap (λ n. (after_steps act n e).log) (add-suc steps more) ∙ ap (λ x. x.log) (after_one_more act (steps + more) e) ∙ one.1
          ∙ ap (λ log. log ++ one.0) before.1 ∙ append_assoc (after_steps act steps e).log before.0 one.0,
    )

-- whether tasks are before a bound
none_is_before : (bound : Bound) (tasks : List Task) → not (list_any (λ task. is_before task.key bound) tasks) ≡ true → AllByRecursion (λ task. is_before task.key bound ≡ false) tasks
none_is_before bound [] clear = tt
none_is_before bound (task ∷ tasks) clear =
    let parts = or_parts (is_before task.key bound) (list_any (λ t. is_before t.key bound) tasks) (not-true _ clear) in
    (parts.0, none_is_before bound tasks (ap not parts.1))

clear_from_none : (bound : Bound) (tasks : List Task) → AllByRecursion (λ task. is_before task.key bound ≡ false) tasks → not (list_any (λ task. is_before task.key bound) tasks) ≡ true
clear_from_none bound [] all = refl
clear_from_none bound (task ∷ tasks) all =
    ap not (or_from (is_before task.key bound) (list_any (λ t. is_before t.key bound) tasks) all.0 (not-true _ (clear_from_none bound tasks all.1)))

-- the first of tasks in order is before a bound where one of them is
none_later : (bound : Bound) (task : Task) (tasks : List Task) → is_before task.key bound ≡ false → AllByRecursion (λ other. key_cmp task.key other.key ≡ Less) tasks → AllByRecursion (λ other. is_before other.key bound ≡ false) tasks
none_later bound task [] not-before all = tt
none_later bound task (other ∷ tasks) not-before all = (not_before_later task.key other.key bound all.0 not-before, none_later bound task tasks not-before all.1)

first_is_before : (bound : Bound) (task : Task) (others : List Task) → AllByRecursion (λ other. key_cmp task.key other.key ≡ Less) others
    → not (list_any (λ t. is_before t.key bound) (task ∷ others)) ≡ false → is_before task.key bound ≡ true
first_is_before bound task others later busy = elim (cases_Bool (is_before task.key bound)) [
  | inl before ↦ before
  | inr not-before ↦ absurd (true≢false (sym (clear_from_none bound (task ∷ others) (not-before, none_later bound task others not-before later)) ∙ busy))
]

pub busy_before_end : {V : Type 0} (e : Execution V) (task : Task) (others : List Task) → e.pending ≡ task ∷ others → is_clear_before end e ≡ false
busy_before_end e task others is = ap (λ tasks. not (list_any (λ (t : Task). is_before t.key end) tasks)) is

pub clear_before_end : {V : Type 0} (e : Execution V) → e.pending ≡ [] → (bound : Bound) → is_clear_before bound e ≡ true
clear_before_end e is bound = ap (λ tasks. not (list_any (λ (t : Task). is_before t.key bound) tasks)) is

-- what a run logs after entries
record IsRest (bound : Bound) (logged whole : List Entry) : Type 0 where
  rest : List Entry
  is : whole ≡ logged ++ rest
  none : AllByRecursion (λ entry. is_entry_before bound entry ≡ false) rest

module _ {V : Type 0} (is_fit_cells : List V → Type 0) (is_fit_task : ℕ → Body → Type 0) (act : Operator V) (lower : LowerLaws)
    (keeps : KeepsFit is_fit_cells is_fit_task act) (not_earlier : ChildrenNotEarlier is_fit_cells is_fit_task act) where
  -- the children of a task that is not before the bound are not either
  children_not_before : (bound : Bound) (e : Execution V) (task : Task) (others : List Task) → e.pending ≡ task ∷ others → IsFit is_fit_cells is_fit_task e
      → AllByRecursion (λ t. is_before t.key bound ≡ false) (task ∷ others) → AllByRecursion (λ t. is_before t.key bound ≡ false) (acts act e (task ∷ others)).pending
  children_not_before bound e task others is fit none =
      All-put_all (λ t. is_before t.key bound ≡ false) (children_from task.key 0 (act task e.cells).children) others
      (All-children (λ t. is_before t.key bound ≡ false) (λ start. task.key.prio ≤ start.prio) task.key
      (λ number child up_to. not_before_later task.key (child_key task.key number child.prio) bound (lower.children_later task.key number child.prio up_to) none.0)
      0 (act task e.cells).children (not_earlier task e.cells fit.cells (fit_first is_fit_cells is_fit_task e task others is fit)))
      none.1

  next_fit : (e : Execution V) (task : Task) (others : List Task) → e.pending ≡ task ∷ others → IsFit is_fit_cells is_fit_task e → IsFit is_fit_cells is_fit_task (acts act e (task ∷ others))
  next_fit e task others is fit = acts_fit is_fit_cells is_fit_task act e task others is (keeps task e.cells fit.cells (fit_first is_fit_cells is_fit_task e task others is fit)) fit

  -- where nothing before the bound is pending, nothing more before it is logged
  rest_logged : (total : ℕ) (bound : Bound) (e whole : Execution V) (tasks : List Task) → e.pending ≡ tasks → IsFit is_fit_cells is_fit_task e
      → AllByRecursion (λ t. is_before t.key bound ≡ false) tasks → run_to_end act total e ≡ Some whole → IsRest bound e.log whole.log
  rest_logged total bound e whole [] is fit none ends = record {
    rest = [];
    is = ap (λ x. x.log) (one_answer whole e (run_to_end act total e) ends (run_clear act total end e (clear_before_end e is end))) ∙ sym (append-nil e.log);
    none = tt;
  }
  rest_logged zero bound e whole (task ∷ others) is fit none ends = absurd (never_some whole (run_to_end act 0 e) (run_refused act end e (busy_before_end e task others is)) ends)
  rest_logged (suc total) bound e whole (task ∷ others) is fit none ends =
      let next = acts act e (task ∷ others) in
      let goes-on : run_to_end act total next ≡ Some whole = ap (run_until act total end) (sym (ap (acts act e) is)) ∙ sym (run_busy act total end e (busy_before_end e task others is)) ∙ ends in
      let found = rest_logged total bound next whole next.pending refl (next_fit e task others is fit) (children_not_before bound e task others is fit none) goes-on in
      record {
        rest = (task.key, (act task e.cells).text) ∷ found.rest;
        is = found.is ∙ append_assoc e.log ((task.key, (act task e.cells).text) ∷ []) found.rest;
        none = (none.0, found.none);
      }

  pub logs_a_part : (limit total : ℕ) (bound : Bound) (e part whole : Execution V) (tasks : List Task) → e.pending ≡ tasks → IsFit is_fit_cells is_fit_task e → IsOrderly e
      → AllByRecursion (λ entry. is_entry_before bound entry ≡ true) e.log → (clear : Bool) → is_clear_before bound e ≡ clear
      → run_until act limit bound e ≡ Some part → run_to_end act total e ≡ Some whole → part.log ≡ entries_before bound whole.log
  logs_a_part limit total bound e part whole tasks is fit orderly before true clear-is stops ends =
      let none = none_is_before bound e.pending clear-is in
      let found = rest_logged total bound e whole e.pending refl fit none ends in
      ap (λ x. x.log) (one_answer part e (run_until act limit bound e) stops (run_clear act limit bound e clear-is))
      ∙ front_is_before bound e.log found.rest before found.none ∙ sym (ap (entries_before bound) found.is)
  logs_a_part limit total bound e part whole [] is fit orderly before false clear-is stops ends = absurd (true≢false (sym (clear_before_end e is bound) ∙ clear-is))
  logs_a_part zero total bound e part whole (task ∷ others) is fit orderly before false clear-is stops ends = absurd (never_some part (run_until act 0 bound e) (run_refused act bound e clear-is) stops)
  logs_a_part (suc limit) zero bound e part whole (task ∷ others) is fit orderly before false clear-is stops ends = absurd (never_some whole (run_to_end act 0 e) (run_refused act end e (busy_before_end e task others is)) ends)
  logs_a_part (suc limit) (suc total) bound e part whole (task ∷ others) is fit orderly before false clear-is stops ends =
      let next = acts act e (task ∷ others) in
      let same : step act e ≡ next = ap (acts act e) is in
      let stops-next : run_until act limit bound next ≡ Some part = ap (run_until act limit bound) (sym same) ∙ sym (run_busy act limit bound e clear-is) ∙ stops in
      let ends-next : run_to_end act total next ≡ Some whole = ap (run_until act total end) (sym same) ∙ sym (run_busy act total end e (busy_before_end e task others is)) ∙ ends in
      let ascending = subst IsAscending is orderly.ascending in
      let task-before : is_before task.key bound ≡ true = first_is_before bound task others ascending.0 (sym (ap (λ ts. not (list_any (λ (t : Task). is_before t.key bound) ts)) is) ∙ clear-is) in
      logs_a_part limit total bound next part whole next.pending refl (next_fit e task others is fit)
      (acts_orderly lower act e task others is (not_earlier task e.cells fit.cells (fit_first is_fit_cells is_fit_task e task others is fit)) orderly)
      (All-push (λ entry. is_entry_before bound entry ≡ true) e.log (task.key, (act task e.cells).text) before task-before)
      (is_clear_before bound next) refl stops-next ends-next

  pub bounded_runs_log_a_part : (e : Execution V) → IsFit is_fit_cells is_fit_task e → IsOrderly e → BoundedRunsLogAPart act e
  bounded_runs_log_a_part e fit orderly bound limit total part whole before stops ends =
      logs_a_part limit total bound e part whole e.pending refl fit orderly before (is_clear_before bound e) refl stops ends
