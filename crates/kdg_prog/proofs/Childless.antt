-- Where no task makes others, an execution creates no more tasks than it begins with.
use Rattle.std.proofs.Common.{◌≡◌, ◌∙◌, ℕ, zero, suc, List, [], ◌∷◌, length, length-append, ap, refl, sym, arith}
use Rattle.task_order.specs.declared.start.Start.{Start}
use Rattle.task_order.specs.declared.task.Task.{Task}
use Rattle.task_order.specs.Laws.{PutsAddOne}
use Rattle.task_order.specs.TaskList.{put_all}
use Rattle.app_laws.specs.Applications.{Application, IsFitTask}
use Rattle.app_laws.specs.Execution.{Execution, Operator, acts, after_steps, children_from, created_after, created_by, start_of}
use Rattle.app_laws.specs.Laws.{EndsWithinLimit, IsFitExecution}
use Rattle.app_laws.specs.StepLaws.{after_none}
use Rattle.crew.specs.declared.answers.OverCause.{OverCause}
use Rattle.crew.specs.declared.answers.OverCause.TheVariants as cause
use Rattle.list_rounds.specs.Rounds.{IsRunFault, start_state}
use Rattle.resting_tasks.specs.Resting.{NoneHasChildren}
use Rattle.kdg_prog.specs.declared.status.Status.{Status}
use Rattle.kdg_prog.specs.declared.status.Status.TheVariants as status
use Rattle.kdg_prog.specs.declared.words.Options.{Options}
use Rattle.kdg_prog.specs.Problem.{Problem}
use Rattle.kdg_prog.specs.Refusals.{AnswersRounds, IsAtStart}
use Rattle.kdg_prog.proofs.FirstTasks.{created_at_start}

module _ {V : Type 0} (app : Application V) (childless : NoneHasChildren app) where
  acts_create_none : (e : Execution V) (pending : List Task) → e.pending ≡ pending → IsFitExecution app e → created_by (acts app.act e pending) ≡ created_by e
  acts_create_none e [] is fit = refl
  acts_create_none e (task ∷ others) is fit =
      let fits : IsFitTask app task = (rw (is) at fit.pending).0 in
      let none : put_all (children_from task.key 0 (app.act task e.cells).children) others ≡ others = ap (λ (children : List Start). put_all (children_from task.key 0 children) others) (childless task e.cells fit.cells fits) in
      omega (arith, ap length none, ap length is, length-append e.log ((task.key, (app.act task e.cells).text) ∷ []))

  created_stays : (e : Execution V) → ((steps : ℕ) → IsFitExecution app (after_steps app.act steps e)) → (steps : ℕ) → created_after app.act steps e ≡ created_by e
  unfolding after_steps
  created_stays e fits zero = refl
  created_stays e fits (suc steps) = acts_create_none (after_steps app.act steps e) (after_steps app.act steps e).pending refl (fits steps) ∙ created_stays e fits steps

-- so it is over the budget only where it begins so
pub over_at_start : {V : Type 0} (options : Options) (problem : Problem V) (cells : List V) (tasks : List Start) → cells ≡ problem.cells → tasks ≡ problem.tasks → NoneHasChildren problem.app → PutsAddOne
    → ((act : Operator V) (e : Execution V) → EndsWithinLimit act e) → ((steps : ℕ) → IsFitExecution problem.app (after_steps problem.app.act steps (start_of cells tasks)))
    → (fault : OverCause) (answer : Status) → IsRunFault problem.app (start_state cells tasks) options.budget fault → AnswersRounds fault answer → IsAtStart options problem answer
over_at_start options problem cells tasks is-cells is-tasks childless adds ends fits (cause.Budget created limit) answer over told = λ most allowed answered.
    let act = problem.app.act in
    let start = start_of cells tasks in
    let passes = (ends act start options.budget).0 over.too_long in
    let same = created_stays problem.app childless start fits passes.0 in
    let first : created_by start ≡ length tasks = ap created_by (sym (after_none act start)) ∙ created_at_start adds act cells tasks in
    omega (arith, passes.1, same, first, ap length is-tasks)
over_at_start options problem cells tasks is-cells is-tasks childless adds ends fits cause.NoRoom answer over told = λ most allowed answered.
    absurd (let never : status.NoMemory ≡ status.Budget most allowed = sym told ∙ answered in cc)
