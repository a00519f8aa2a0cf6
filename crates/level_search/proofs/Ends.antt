-- Where an execution has nothing pending, it has come to its end.
use Rattle.std.specs.Prelude.{◌≡◌, ℕ, ◌+◌, ◌-◌, ◌≤◌, not, true, false, List, [], Option, None, Some, MatchOption}
use Rattle.std.specs.List.{list_any}
use Rattle.std.specs.Option.{option_map}
use Rattle.std.proofs.Common.{arith, ap, sym, ◌∙◌, inl, inr}
use Rattle.std.proofs.lemmas.Bool.{cases_lt, true≢false}
use Rattle.task_order.specs.declared.task.Task.{Task}
use Rattle.task_order.specs.Key.{end, is_before}
use Rattle.app_laws.specs.Execution.{Execution, Operator, after_steps, is_clear_before, run_to_end, steps_until}
use Rattle.app_laws.specs.Laws.{IsFirstClear, StepsAdd, StopsWhenClear}
use Rattle.app_laws.specs.StepLaws.{ended_stays, none_before_end}

clear_where_none : {V : Type 0} (e : Execution V) → e.pending ≡ [] → is_clear_before end e ≡ true
clear_where_none e none = ap (λ (tasks : List Task). not (list_any (λ (task : Task). is_before task.key end) tasks)) none

-- a run to the end comes there, where the steps are within its limit
pub ends_there : {V : Type 0} (act : Operator V) (e : Execution V) → StepsAdd act e → StopsWhenClear act e → (limit steps : ℕ) → steps ≤ limit → (after_steps act steps e).pending ≡ []
    → run_to_end act limit e ≡ Some (after_steps act steps e)
ends_there {V} act e adds stops limit steps within none = by_answer (steps_until act limit end e) (stops limit end)
  where
    clear : is_clear_before end (after_steps act steps e) ≡ true
    clear = clear_where_none (after_steps act steps e) none

    by_answer : (found : Option ℕ) → MatchOption found ((fewer : ℕ) → fewer ≤ limit → is_clear_before end (after_steps act fewer e) ≡ false) (λ first. (first ≤ limit) × IsFirstClear act end e first)
        → option_map (λ first. after_steps act first e) found ≡ Some (after_steps act steps e)
    by_answer None never = absurd (true≢false (sym clear ∙ never steps within))
    by_answer (Some first) told = elim (cases_lt steps first) [
      | inl below ↦ absurd (true≢false (sym clear ∙ told.1.first steps below))
      | inr above ↦
          let turned : steps ≡ first + (steps - first) = omega (arith, above) in
          let last : (after_steps act first e).pending ≡ [] = none_before_end (after_steps act first e).pending told.1.clear in
          ap Some (sym (ap (λ (n : ℕ). after_steps act n e) turned ∙ adds first (steps - first) ∙ ended_stays act (after_steps act first e) last (steps - first)))
    ]
