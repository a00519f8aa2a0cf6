-- What a serial run answers.
use Rattle.std.specs.Prelude.{ℕ, ◌≡◌, ◌<◌, ◌≤◌, length, Some, None}
use Rattle.cell_store.specs.Values.{homes}
use Rattle.output_log.specs.Entries.{joined_texts}
use Rattle.app_laws.specs.Execution.{Operator, Execution, run_to_end, created_after}
use Rattle.app_laws.specs.declared.serial_run.Finals.{Finals}
use Rattle.app_laws.specs.declared.serial_run.SerialFault.{SerialFault}
use Rattle.app_laws.specs.declared.serial_run.SerialFault.TheVariants.{Budget, NoRoom}

-- the execution to its end: its cells, all of them home, the texts of its log, joined, and the number of its tasks
pub record IsRun {V : Type 0} (act : Operator V) (budget : ℕ) (start : Execution V) (finals : Finals V) : Type 0 where
  pub end : Execution V
  pub ends : run_to_end act budget start ≡ Some end
  pub store : finals.store ≡ homes end.cells
  pub text : finals.text ≡ joined_texts end.log
  pub count : finals.count ≡ length end.log

-- this many tasks are created when first there are more than the limit
pub record FirstPasses {V : Type 0} (act : Operator V) (limit : ℕ) (start : Execution V) (created : ℕ) : Type 0 where
  pub steps : ℕ
  pub many : created ≡ created_after act steps start
  pub passes : limit < created
  pub first : (fewer : ℕ) → fewer < steps → created_after act fewer start ≤ limit

-- the execution does not end within the budget
pub record IsOverBudget {V : Type 0} (act : Operator V) (budget : ℕ) (start : Execution V) (created limit : ℕ) : Type 0 where
  pub too_long : run_to_end act budget start ≡ None
  pub limit_is : limit ≡ budget
  pub first_passes : FirstPasses act budget start created

-- too many tasks; want of memory may come at any time
abbrev pub IsFault : {V : Type 0} → Operator V → ℕ → Execution V → SerialFault → Type 0
IsFault act budget start (Budget created limit) = IsOverBudget act budget start created limit
IsFault act budget start NoRoom = Unit {0}
