-- How many rounds an execution takes.
use Rattle.std.specs.Prelude.{◌≡◌, ◌≤◌, ℕ, zero, suc, List, [], ◌∷◌, IfSome}
use Rattle.task_order.specs.declared.task.Task.{Task}
use Rattle.task_order.specs.Key.{end}
use Rattle.app_laws.specs.Applications.{Application}
use Rattle.commuting.specs.Clear.{IsReady}
use Rattle.commuting.specs.Rounds.{TakesRounds, after_round}
use Rattle.commuting.specs.States.{State, run_from}

-- one round more than these, where any task is pending
abbrev pub one_more : List Task → ℕ → ℕ
one_more [] rounds = 0
one_more (task ∷ tasks) rounds = suc rounds

module _ {V : Type 0} (app : Application V) where
  -- how many rounds there are until nothing is pending, counted up to this most
  unfoldable pub rounds_within : ℕ → State V → ℕ
  rounds_within zero state = 0
  rounds_within (suc most) state = one_more state.pending (rounds_within most (after_round app state))

  -- where the rounds are no more than the most, they are counted
  abbrev pub FewRoundsAreCounted : Type 0
  FewRoundsAreCounted = (rounds most : ℕ) (state : State V) → rounds ≤ most → TakesRounds app rounds state → rounds_within most state ≡ rounds

  -- and they are no more than that where the execution ends within as many tasks
  abbrev pub RoundsToTheEndAreCounted : Type 0
  RoundsToTheEndAreCounted = (state : State V) → IsReady app state → (most : ℕ) →
      IfSome (run_from app.act most end state) (λ _. TakesRounds app (rounds_within most state) state)
