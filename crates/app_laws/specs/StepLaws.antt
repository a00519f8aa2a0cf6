-- What is so of an execution as it goes on, step by step.
use Rattle.std.proofs.Common.{List, [], ap, not, refl, suc, sym, true, zero, ℕ, ◌∙◌, ◌∷◌, ◌≡◌}
use Rattle.std.specs.List.{list_any}
use Rattle.std.proofs.lemmas.Bool.{true≢false}
use Rattle.task_order.specs.declared.task.Task.{Task}
use Rattle.task_order.specs.Key.{is_before, end}
use Rattle.app_laws.specs.Execution.{Operator, Execution, after_steps, step, acts}

pub after_none : {V : Type 0} (act : Operator V) (e : Execution V) → after_steps act 0 e ≡ e
unfolding after_steps
after_none act e = refl

pub after_one_more : {V : Type 0} (act : Operator V) (steps : ℕ) (e : Execution V) → after_steps act (suc steps) e ≡ step act (after_steps act steps e)
unfolding after_steps
after_one_more act steps e = refl

-- an execution that has ended stays as it is
pub ended_stays : {V : Type 0} (act : Operator V) (e : Execution V) → e.pending ≡ [] → (more : ℕ) → after_steps act more e ≡ e
ended_stays act e ended zero = after_none act e
ended_stays act e ended (suc more) =
    after_one_more act more e ∙ ap (step act) (ended_stays act e ended more) ∙ ap (acts act e) ended

pub none_before_end : (tasks : List Task) → not (list_any (λ (task : Task). is_before task.key end) tasks) ≡ true → tasks ≡ []
none_before_end [] clear = refl
none_before_end (task ∷ tasks) clear = absurd (true≢false (sym clear))
