-- Where the first tasks alone are more than the budget.
use Rattle.std.proofs.Common.{◌≡◌, ◌∙◌, ℕ, ◌+◌, ◌<◌, List, [], ◌∷◌, length, ap, refl, sym, subst, inr, arith}
use Rattle.task_order.specs.declared.start.Start.{Start}
use Rattle.task_order.specs.declared.task.Task.{Task}
use Rattle.task_order.specs.Laws.{PutsAddOne}
use Rattle.task_order.specs.TaskList.{put_in, put_all}
use Rattle.app_laws.specs.Execution.{Execution, Operator, created_after, created_by, first_from, start_of}
use Rattle.app_laws.specs.Laws.{EndsWithinLimit}
use Rattle.app_laws.specs.Serial.{IsOverBudget}
use Rattle.app_laws.specs.TaskLaws.{length-first_from}
use Rattle.app_laws.specs.StepLaws.{after_none}
use Rattle.graph_update.specs.Engine.{IsBeginFault}
use Rattle.graph_update.specs.declared.answers.BeginFault.{BeginFault}
use Rattle.graph_update.specs.declared.answers.BeginFault.TheVariants as fault
use Rattle.kdg_prog.specs.declared.status.Status.{Status}
use Rattle.kdg_prog.specs.declared.status.Status.TheVariants as status
use Rattle.kdg_prog.specs.declared.words.Options.{Options}
use Rattle.kdg_prog.specs.Problem.{Problem}
use Rattle.kdg_prog.specs.Refusals.{AnswersBegin, IsAtStart, IsRunRefusal}
use Rattle.kdg_prog.proofs.Refusing.{refusal_when_over}

length-put_all : PutsAddOne → (new tasks : List Task) → length (put_all new tasks) ≡ length new + length tasks
length-put_all adds_one [] tasks = omega arith
length-put_all adds_one (task ∷ new) tasks =
    let rest = length-put_all adds_one new (put_in task tasks) in
    let one = adds_one task tasks in
    omega (arith, rest, one)

-- where the first tasks are counted, Budget comes before any has acted
pub counted_at_start : {V : Type 0} (options : Options) (problem : Problem V) (tasks : List Start) → tasks ≡ problem.tasks → (fault : BeginFault) (answer : Status) → IsBeginFault tasks options.budget fault → AnswersBegin fault answer → IsAtStart options problem answer
counted_at_start options problem tasks is-tasks (fault.Budget asked limit) answer over told = λ created most answered. omega (arith, over.0, over.2, ap length is-tasks)
counted_at_start options problem tasks is-tasks fault.NoRoom answer over told = λ created most answered. absurd (let never : status.NoMemory ≡ status.Budget created most = sym told ∙ answered in cc)

module _ {V : Type 0} (adds_one : PutsAddOne) where
  -- before a task has acted, the first ones are created
  pub created_at_start : (act : Operator V) (cells : List V) (first : List Start) → created_after act 0 (start_of cells first) ≡ length first
  created_at_start act cells first =
      let pending = length-put_all adds_one (first_from 0 first) [] in
      let numbered = length-first_from 0 first in
      let created : created_by (start_of cells first) ≡ length first = omega (arith, pending, numbered) in
      ap created_by (after_none act (start_of cells first)) ∙ created

  module _ (ends : (act : Operator V) (e : Execution V) → EndsWithinLimit act e) where
    over_at_start : (act : Operator V) (budget : ℕ) (cells : List V) (first : List Start) (created : ℕ) → created ≡ length first → budget < created → IsOverBudget act budget (start_of cells first) created budget
    over_at_start act budget cells first created is over =
        let start = start_of cells first in
        let many : created ≡ created_after act 0 start = is ∙ sym (created_at_start act cells first) in
        let beyond : budget < created_after act 0 start = subst (λ (n : ℕ). budget < n) many over in
        record {
          too_long = (ends act start budget).1 (0, omega (arith, beyond));
          limit_is = refl;
          first_passes = record { steps = 0; many = many; passes = over; first = λ fewer below. absurd (omega arith) };
        }

    -- the refusal where the first tasks are more than the budget
    pub refusal_at_start : (options : Options) (problem : Problem V) (created : ℕ) → created ≡ length problem.tasks → options.budget < created → IsRunRefusal options problem (status.Budget created options.budget)
    refusal_at_start options problem created is over = refusal_when_over options problem created (over_at_start problem.app.act options.budget problem.cells problem.tasks created is over)

    -- and that of an engine that doesn't begin for want of budget
    pub refusal_of_begin : (options : Options) (problem : Problem V) (tasks : List Start) → tasks ≡ problem.tasks → (fault : BeginFault) (answer : Status) → IsBeginFault tasks options.budget fault → AnswersBegin fault answer → IsRunRefusal options problem answer
    refusal_of_begin options problem tasks is-tasks (fault.Budget asked limit) answer over told =
        let many : asked ≡ length problem.tasks = over.0 ∙ ap length is-tasks in
        let beyond : options.budget < asked = omega (arith, over.0, over.2) in
        subst (IsRunRefusal options problem) (sym (told ∙ ap (status.Budget asked) over.1)) (refusal_at_start options problem asked many beyond)
    refusal_of_begin options problem tasks is-tasks fault.NoRoom answer over told = inr (inr told)
