-- The number of rounds, counted.
use Rattle.std.proofs.Common.{◌≡◌, ◌≢◌, ℕ, zero, suc, ◌+◌, ◌≤◌, List, [], ◌∷◌, length, Option, Some, None, refl, ap, sym, subst, ◌∙◌, arith}
use Rattle.std.specs.Prelude.{IfSome, MatchOption, false}
use Rattle.std.specs.Option.{option_map}
use Rattle.task_order.specs.declared.task.Task.{Task}
use Rattle.task_order.specs.Key.{end}
use Rattle.app_laws.specs.Applications.{Application}
use Rattle.app_laws.specs.Execution.{Execution, Operator, after_steps, is_clear_before, steps_until}
use Rattle.app_laws.specs.Laws.{IsFirstClear, LogsEachStep, StopsWhenClear}
use Rattle.commuting.specs.Rounds.{EndsTakeRounds, TakesRounds, after_round}
use Rattle.commuting.specs.States.{execution_from}
use Rattle.kdg_prog.specs.RoundCount.{FewRoundsAreCounted, RoundsToTheEndAreCounted, one_more, rounds_within}

one_more_of_some : (tasks : List Task) (rounds : ℕ) → tasks ≢ [] → one_more tasks rounds ≡ suc rounds
one_more_of_some [] rounds some = absurd (some refl)
one_more_of_some (task ∷ tasks) rounds some = refl

module _ {V : Type 0} (app : Application V) where
  pub few_are_counted : FewRoundsAreCounted app
  unfolding rounds_within
  few_are_counted zero zero state few takes = refl
  few_are_counted zero (suc most) state few takes = ap (λ tasks. one_more tasks (rounds_within app most (after_round app state))) takes
  few_are_counted (suc rounds) zero state few takes = absurd (omega (arith, few))
  few_are_counted (suc rounds) (suc most) state few takes =
      let rest = few_are_counted rounds most (after_round app state) (omega (arith, few)) takes.1 in
      one_more_of_some state.pending (rounds_within app most (after_round app state)) takes.0 ∙ ap suc rest

  module _ (stops : (act : Operator V) (e : Execution V) → StopsWhenClear act e) (logs : (act : Operator V) (e : Execution V) → LogsEachStep act e) (take_rounds : EndsTakeRounds app) where
    pub counted_to_the_end : RoundsToTheEndAreCounted app
    counted_to_the_end state ready most =
        by_steps (steps_until app.act most end (execution_from state)) (stops app.act (execution_from state) most end) (logs app.act (execution_from state) most end) (take_rounds state ready most)
      where
        by_steps : (found : Option ℕ) →
            MatchOption found ((steps : ℕ) → steps ≤ most → is_clear_before end (after_steps app.act steps (execution_from state)) ≡ false) (λ steps. (steps ≤ most) × IsFirstClear app.act end (execution_from state) steps) →
            IfSome found (λ steps. length (after_steps app.act steps (execution_from state)).log ≡ 0 + steps) →
            IfSome (option_map (λ steps. after_steps app.act steps (execution_from state)) found) (λ e. (rounds : ℕ) × (rounds ≤ length e.log) × TakesRounds app rounds state) →
            IfSome (option_map (λ steps. after_steps app.act steps (execution_from state)) found) (λ _. TakesRounds app (rounds_within app most state) state)
        by_steps None stopped logged taken = tt
        by_steps (Some steps) stopped logged taken =
            let within : taken.0 ≤ most = omega (arith, taken.1, logged, stopped.0) in
            subst (λ rounds. TakesRounds app rounds state) (sym (few_are_counted taken.0 most state within taken.2)) taken.2
