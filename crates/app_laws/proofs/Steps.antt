-- How an execution goes on.
use Rattle.std.proofs.Common.{◌≡◌, ◌≢◌, ℕ, zero, suc, ◌+◌, ◌<◌, ◌≤◌, Bool, true, false, not, cond, List, [], ◌∷◌, length, Option, Some, None, refl, sym, ap, ◌∙◌, ⊎_elim, arith, length-append, add-suc, add-zero}
use Rattle.std.specs.Prelude.{IfSome, MatchOption, ◌↔◌}
use Rattle.std.specs.List.{list_any}
use Rattle.std.specs.Option.{option_map, option_or}
use Rattle.std.proofs.lemmas.Bool.{cases_lt, true≢false}
use Rattle.plain_laws.specs.Lists.{some_in}
use Rattle.task_order.specs.declared.task.Task.{Task}
use Rattle.task_order.specs.Key.{Bound, end, is_before}
use Rattle.task_order.specs.TaskListLaws.{length-put_all}
use Rattle.app_laws.specs.Execution.{Operator, Execution, children_from, acts, step, after_steps, is_clear_before, steps_until, created_by, created_after}
use Rattle.app_laws.specs.Laws.{IsFirstClear, StopsWhenClear, LogsEachStep, CreatedNeverFalls, EndsWithinLimit, StepsAdd}
use Rattle.app_laws.specs.TaskLaws.{length-children_from}
use Rattle.app_laws.specs.StepLaws.{after_none, after_one_more, ended_stays, none_before_end}

pub steps_add : {V : Type 0} (act : Operator V) (e : Execution V) → StepsAdd act e
unfolding after_steps
steps_add act e steps zero = ap (λ n. after_steps act n e) (add-zero steps)
steps_add act e steps (suc more) = ap (λ n. after_steps act n e) (add-suc steps more) ∙ ap (step act) (steps_add act e steps more)

-- a task that acts adds its children to the tasks that were created
pub created_by_task : {V : Type 0} (act : Operator V) (e : Execution V) (task : Task) (others : List Task)
    → created_by (acts act e (task ∷ others)) ≡ length e.log + length (task ∷ others) + length (act task e.cells).children
created_by_task act e task others =
    let children = (act task e.cells).children in
    omega (arith, length-append e.log ((task.key, (act task e.cells).text) ∷ []), length-put_all (children_from task.key 0 children) others, length-children_from task.key 0 children)

created_by_acts : {V : Type 0} (act : Operator V) (e : Execution V) (tasks : List Task) → length e.log + length tasks ≤ created_by (acts act e tasks)
created_by_acts act e [] = omega arith
created_by_acts act e (task ∷ others) = omega (arith, created_by_task act e task others)

pub created_never_falls : {V : Type 0} (act : Operator V) (e : Execution V) → CreatedNeverFalls act e
created_never_falls act e steps zero = rw add-zero (omega arith)
created_never_falls act e steps (suc more) =
    let after = after_steps act (steps + more) e in
    rw (add-suc, after_one_more) (omega (arith, created_never_falls act e steps more, created_by_acts act after after.pending))

-- no number of steps up to the limit is enough
abbrev NeverClear : {V : Type 0} → Operator V → ℕ → Bound → Execution V → Type 0
NeverClear act limit bound e = (steps : ℕ) → steps ≤ limit → is_clear_before bound (after_steps act steps e) ≡ false

abbrev Stops : {V : Type 0} → Operator V → ℕ → Bound → Execution V → Option ℕ → Type 0
Stops act limit bound e answer = MatchOption answer (NeverClear act limit bound e) (λ steps. (steps ≤ limit) × IsFirstClear act bound e steps)

stops_at_once : {V : Type 0} (act : Operator V) (bound : Bound) (e : Execution V) (clear : Bool)
    → clear ≡ is_clear_before bound (after_steps act 0 e) → Stops act 0 bound e (cond clear (Some 0) None)
stops_at_once act bound e true is = (omega arith, record { clear = sym is; first = λ fewer below. absurd (omega arith) })
stops_at_once act bound e false is = λ steps up_to. let none : steps ≡ 0 = omega arith in rw none (sym is)

-- the answer with one more step, by the answer without it
stops_later : {V : Type 0} (act : Operator V) (limit : ℕ) (bound : Bound) (e : Execution V) (before : Option ℕ) (clear : Bool)
    → Stops act limit bound e before → clear ≡ is_clear_before bound (after_steps act (suc limit) e)
    → Stops act (suc limit) bound e (option_or before (cond clear (Some (suc limit)) None))
stops_later act limit bound e (Some steps) clear found is = (omega arith, found.1)
stops_later act limit bound e None true never is =
    (omega arith, record { clear = sym is; first = λ fewer below. never fewer (omega arith) })
stops_later act limit bound e None false never is = λ steps up_to.
    ⊎_elim
    (λ below. never steps (omega arith))
    (λ above. let last : steps ≡ suc limit = omega arith in rw last (sym is))
    (cases_lt steps (suc limit))

pub stops_when_clear : {V : Type 0} (act : Operator V) (e : Execution V) → StopsWhenClear act e
unfolding steps_until
stops_when_clear act e zero bound = stops_at_once act bound e (is_clear_before bound e) (ap (is_clear_before bound) (sym (after_none act e)))
stops_when_clear act e (suc limit) bound =
    stops_later act limit bound e (steps_until act limit bound e) (is_clear_before bound (after_steps act (suc limit) e)) (stops_when_clear act e limit bound) refl

pending_from_not_clear : {V : Type 0} (bound : Bound) (e : Execution V) → is_clear_before bound e ≡ false → e.pending ≢ []
pending_from_not_clear bound e busy none =
    true≢false (sym (ap (λ tasks. not (list_any (λ (task : Task). is_before task.key bound) tasks)) none) ∙ busy)

logs_one : {V : Type 0} (act : Operator V) (e : Execution V) (tasks : List Task) → tasks ≢ [] → length (acts act e tasks).log ≡ length e.log + 1
logs_one act e [] some = absurd (some refl)
logs_one act e (task ∷ others) some = omega (arith, length-append e.log ((task.key, (act task e.cells).text) ∷ []))

-- while tasks are pending, each step logs one
pub logs_while_pending : {V : Type 0} (act : Operator V) (e : Execution V) (steps : ℕ)
    → ((fewer : ℕ) → fewer < steps → (after_steps act fewer e).pending ≢ []) → length (after_steps act steps e).log ≡ length e.log + steps
logs_while_pending act e zero pending = rw after_none (omega arith)
logs_while_pending act e (suc steps) pending =
    let after = after_steps act steps e in
    let before = logs_while_pending act e steps (λ fewer below. pending fewer (omega arith)) in
    let one = logs_one act after after.pending (pending steps (omega arith)) in
    rw after_one_more (omega (arith, before, one))

logs_until_clear : {V : Type 0} (act : Operator V) (bound : Bound) (e : Execution V) (steps : ℕ)
    → IsFirstClear act bound e steps → length (after_steps act steps e).log ≡ length e.log + steps
logs_until_clear act bound e steps found =
    logs_while_pending act e steps (λ fewer below. pending_from_not_clear bound (after_steps act fewer e) (found.first fewer below))

logs_answered : {V : Type 0} (act : Operator V) (limit : ℕ) (bound : Bound) (e : Execution V) (answer : Option ℕ)
    → Stops act limit bound e answer → IfSome answer (λ steps. length (after_steps act steps e).log ≡ length e.log + steps)
logs_answered act limit bound e None stops = tt
logs_answered act limit bound e (Some steps) stops = logs_until_clear act bound e steps stops.1

pub logs_each_step : {V : Type 0} (act : Operator V) (e : Execution V) → LogsEachStep act e
logs_each_step act e limit bound = logs_answered act limit bound e (steps_until act limit bound e) (stops_when_clear act e limit bound)

-- an execution that ends creates no more than it logs
created_up_to_end : {V : Type 0} (act : Operator V) (e : Execution V) (last : ℕ) → (after_steps act last e).pending ≡ []
    → (steps : ℕ) → created_after act steps e ≤ length (after_steps act last e).log
created_up_to_end act e last ended steps =
    let turned : steps + last ≡ last + steps = omega arith in
    let same = ap (λ n. after_steps act n e) turned ∙ steps_add act e last steps ∙ ended_stays act (after_steps act last e) ended steps in
    omega (arith, created_never_falls act e steps last, ap created_by same, ap length ended)

more_than_logged : {V : Type 0} (e : Execution V) → e.pending ≢ [] → (logged : ℕ) → length e.log ≡ logged → logged < created_by e
more_than_logged e pending logged is = omega (arith, some_in e.pending pending)

ends_answered : {V : Type 0} (act : Operator V) (limit : ℕ) (e : Execution V) (answer : Option ℕ) → Stops act limit end e answer
    → (option_map (λ steps. after_steps act steps e) answer ≡ None) ↔ ((steps : ℕ) × (length e.log + limit < created_after act steps e))
ends_answered act limit e (Some last) stops =
    let ended = none_before_end (after_steps act last e).pending stops.1.clear in
    (λ none. absurd (cc), λ more. absurd (omega (arith, more.1, created_up_to_end act e last ended more.0, logs_until_clear act end e last stops.1)))
ends_answered act limit e None never =
    let after = after_steps act limit e in
    let pending = λ (fewer : ℕ) (below : fewer < limit). pending_from_not_clear end (after_steps act fewer e) (never fewer (omega arith)) in
    let logged = logs_while_pending act e limit pending in
    (λ none. (limit, more_than_logged after (pending_from_not_clear end after (never limit (omega arith))) (length e.log + limit) logged), λ more. refl)

pub ends_within_limit : {V : Type 0} (act : Operator V) (e : Execution V) → EndsWithinLimit act e
ends_within_limit act e limit = ends_answered act limit e (steps_until act limit end e) (stops_when_clear act e limit end)
