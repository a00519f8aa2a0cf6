-- Why a task that wasn't ended isn't, by itself.
use Rattle.crew.specs.declared.answers.FinishFault.{FinishFault}
use Rattle.crew.specs.declared.answers.FinishFault.TheVariants as fault
use Rattle.crew.specs.declared.answers.OverCause.{OverCause}
use Rattle.crew.specs.declared.answers.OverCause.TheVariants as cause

-- the cause of a fault, without the task that came back
abbrev pub cause_of : {N V : Type 0} → FinishFault N V → OverCause
cause_of (fault.Budget done created limit) = cause.Budget created limit
cause_of (fault.NoRoom done) = cause.NoRoom
