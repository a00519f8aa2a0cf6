-- What a mark tells once all workers have stopped.
use Rattle.std.proofs.Common.{◌≡◌, Some}
use Rattle.app_laws.specs.Applications.{Application}
use Rattle.crew.specs.declared.answers.OverCause.{OverCause}
use Rattle.crew.specs.declared.answers.OverCause.TheVariants as cause
use Rattle.run_laws.specs.Progress.{Progress}
use Rattle.source_pool.specs.Runs.{IsRunFault}
use Rattle.worker_gate.specs.Fits.{Continues, Sum}

module _ {V : Type 0} {app : Application V} (origin now : Progress V) (sum : Sum V) (continues : Continues app origin now sum) where
  -- the mark says that the sequential run doesn't end within the limit
  pub marked_fault : (why : OverCause) → now.over ≡ Some why → IsRunFault app origin why
  marked_fault (cause.Budget created limit) marked =
      let is = continues.come.true_mark created limit marked in
      record { too_long = is.2; limit_is = is.0; above = is.1 }
  marked_fault cause.NoRoom marked = tt
