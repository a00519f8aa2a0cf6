-- Where a serial run stands after some steps.
use Rattle.std.proofs.Common.{◌≡◌, ◌≢◌, ℕ, suc, ◌+◌, ◌-◌, ◌<◌, ◌≤◌, true, false, not, List, [], ◌∷◌, ◌++◌, length, Option, Some, None, refl, sym, ap, ◌∙◌, ⊎_elim, arith, add-one}
use Rattle.std.specs.Prelude.{MatchOption}
use Rattle.std.specs.List.{list_any}
use Rattle.std.specs.Option.{option_map}
use Rattle.std.proofs.lemmas.Bool.{cases_lt, cases_order, true≢false}
use Rattle.std.proofs.lemmas.List.{flat_map_more}
use Rattle.task_order.specs.declared.start.Start.{Start}
use Rattle.task_order.specs.declared.task.Task.{Task}
use Rattle.task_order.specs.Key.{end, is_before}
use Rattle.task_order.specs.TaskList.{put_all}
use Rattle.task_order.specs.TaskListLaws.{length-put_all}
use Rattle.output_log.specs.Entries.{Entry, joined_texts}
use Rattle.app_laws.specs.Execution.{Operator, Execution, children_from, first_from, start_of, acts, after_steps, is_clear_before, steps_until, run_to_end, created_by, created_after}
use Rattle.app_laws.specs.Laws.{IsFirstClear}
use Rattle.app_laws.specs.Serial.{IsOverBudget}
use Rattle.app_laws.proofs.Steps.{stops_when_clear, created_by_task, logs_while_pending, created_never_falls, ends_within_limit}
use Rattle.app_laws.specs.TaskLaws.{length-first_from}
use Rattle.app_laws.specs.StepLaws.{after_none, after_one_more, none_before_end}

-- the execution after count steps, each of which had a task to run
pub record IsReached {V : Type 0} (act : Operator V) (budget : ℕ) (start : Execution V) (cells : List V) (count : ℕ) : Type 0 where
  pub cells-are : cells ≡ (after_steps act count start).cells
  pub within : created_after act count start ≤ budget
  pub busy : (fewer : ℕ) → fewer < count → (after_steps act fewer start).pending ≢ []

pub reached_at_start : {V : Type 0} (act : Operator V) (budget : ℕ) (cells : List V) (first : List Start) → length first ≤ budget
    → IsReached act budget (start_of cells first) cells 0
reached_at_start act budget cells first within =
    let start = start_of cells first in
    let same = after_none act start in
    record {
      cells-are = sym (ap (λ e. e.cells) same);
      within = rw after_none (omega (arith, length-put_all (first_from 0 first) [], length-first_from 0 first));
      busy = λ fewer below. absurd (omega arith);
    }

not_empty : (task : Task) (tasks : List Task) → task ∷ tasks ≢ []
not_empty task tasks same = absurd cc

module _ {V : Type 0} {act : Operator V} {budget : ℕ} {start : Execution V} {cells : List V} {count : ℕ} (reached : IsReached act budget start cells count) where
  -- the task that acts next
  step_is : (task : Task) (others : List Task) → (after_steps act count start).pending ≡ task ∷ others → after_steps act (suc count) start ≡ acts act (after_steps act count start) (task ∷ others)
  step_is task others is = after_one_more act count start ∙ ap (acts act (after_steps act count start)) is

  created_next : (task : Task) (others : List Task) → (after_steps act count start).pending ≡ task ∷ others → created_after act (suc count) start ≡ created_after act count start + length (act task cells).children
  created_next task others is =
      let e = after_steps act count start in
      omega (
        arith,
        ap created_by (step_is task others is),
        created_by_task act e task others,
        ap length is,
        ap (λ cs. length (act task cs).children) reached.cells-are,
      )

  pub reached_next : (task : Task) (others : List Task) (cells' : List V) → (after_steps act count start).pending ≡ task ∷ others
      → cells' ≡ (act task cells).cells → created_after act count start + length (act task cells).children ≤ budget
      → IsReached act budget start cells' (count + 1)
  reached_next task others cells' is cells-are within =
      let next = step_is task others is in
      rw add-one (record {
        cells-are = cells-are ∙ ap (λ cs. (act task cs).cells) reached.cells-are ∙ sym (ap (λ x. x.cells) next);
        within = rw (created_next task others is) within;
        busy = λ fewer below.
            ⊎_elim
            (λ before. reached.busy fewer before)
            (λ above none.
            let last : fewer ≡ count = omega arith in
            not_empty task others (sym is ∙ sym (ap (λ n. (after_steps act n start).pending) last) ∙ none))
            (cases_lt fewer count);
      })

  pub pending_next : (task : Task) (others : List Task) → (after_steps act count start).pending ≡ task ∷ others
      → (after_steps act (count + 1) start).pending ≡ put_all (children_from task.key 0 (act task cells).children) others
  pending_next task others is =
      rw add-one (ap (λ x. x.pending) (step_is task others is) ∙ ap (λ cs. put_all (children_from task.key 0 (act task cs).children) others) (sym reached.cells-are))

  -- what the task logs
  log_next : (task : Task) (others : List Task) → (after_steps act count start).pending ≡ task ∷ others
      → (after_steps act (count + 1) start).log ≡ (after_steps act count start).log ++ (task.key, (act task cells).text) ∷ []
  log_next task others is =
      rw add-one
      (ap (λ x. x.log) (step_is task others is) ∙ ap (λ cs. (after_steps act count start).log ++ (task.key, (act task cs).text) ∷ []) (sym reached.cells-are))

  -- its text comes behind all texts so far
  pub text_next : (task : Task) (others : List Task) → (after_steps act count start).pending ≡ task ∷ others
      → joined_texts (after_steps act (count + 1) start).log ≡ joined_texts (after_steps act count start).log ++ (act task cells).text
  text_next task others is =
      ap joined_texts (log_next task others is)
      ∙ sym (flat_map_more (λ (entry : Entry). entry.1) [] (after_steps act count start).log (task.key, (act task cells).text))

  module _ (fresh : length start.log ≡ 0) where
    -- as many are created as have acted and are pending
    pub created_is : created_after act count start ≡ count + length (after_steps act count start).pending
    created_is = omega (arith, logs_while_pending act start count reached.busy)

    pub count_within : count + length (after_steps act count start).pending ≤ budget
    count_within = omega (arith, created_is, reached.within)

    -- a task that is pending can still run
    pub count_below : (task : Task) (others : List Task) → (after_steps act count start).pending ≡ task ∷ others → count < budget
    count_below task others is = omega (arith, count_within, ap length is)

    -- the first time that there are too many
    pub over_budget : (task : Task) (others : List Task) (created' : ℕ) → (after_steps act count start).pending ≡ task ∷ others
        → created' ≡ created_after act count start + length (act task cells).children → budget < created'
        → IsOverBudget act budget start created' budget
    over_budget task others created' is many over =
        let after = created_next task others is in
        record {
          too_long = (ends_within_limit act start budget).1 (suc count, omega arith);
          limit_is = refl;
          first_passes = record {
            steps = suc count;
            many = many ∙ sym after;
            passes = over;
            first = λ fewer below.
                let up_to : fewer + (count - fewer) ≡ count = omega arith in
                omega (arith, created_never_falls act start fewer (count - fewer), ap (λ n. created_after act n start) up_to, reached.within);
          };
        }

    ends_answered : (answer : Option ℕ) → MatchOption answer ((steps : ℕ) → steps ≤ budget → is_clear_before end (after_steps act steps start) ≡ false) (λ steps. (steps ≤ budget) × IsFirstClear act end start steps)
        → is_clear_before end (after_steps act count start) ≡ true → answer ≡ Some count
    ends_answered None never clear = absurd (true≢false (sym clear ∙ never count (omega (arith, count_within))))
    ends_answered (Some steps) found clear =
        ⊎_elim
        (λ same. ap Some same)
        (⊎_elim
        (λ fewer. absurd (reached.busy steps fewer (none_before_end (after_steps act steps start).pending found.1.clear)))
        (λ more. absurd (true≢false (sym clear ∙ found.1.first count more))))
        (cases_order steps count)

    -- nothing is pending: the end
    pub ends_here : (after_steps act count start).pending ≡ [] → run_to_end act budget start ≡ Some (after_steps act count start)
    ends_here none =
        let clear = ap (λ tasks. not (list_any (λ (task : Task). is_before task.key end) tasks)) none in
        ap (option_map (λ steps. after_steps act steps start)) (ends_answered (steps_until act budget end start) (stops_when_clear act start budget end) clear)

    pub counted : count ≡ length (after_steps act count start).log
    counted = omega (arith, logs_while_pending act start count reached.busy)

-- the first tasks alone are too many
pub over_at_start : {V : Type 0} (act : Operator V) (budget : ℕ) (cells : List V) (first : List Start) (created : ℕ) → created ≡ length first → budget < created
    → IsOverBudget act budget (start_of cells first) created budget
over_at_start act budget cells first created is over =
    let start = start_of cells first in
    let many : created ≡ created_after act 0 start = rw after_none (omega (arith, length-put_all (first_from 0 first) [], length-first_from 0 first)) in
    record {
      too_long = (ends_within_limit act start budget).1 (0, omega arith);
      limit_is = refl;
      first_passes = record { steps = 0; many = many; passes = over; first = λ fewer below. absurd (omega arith) };
    }
