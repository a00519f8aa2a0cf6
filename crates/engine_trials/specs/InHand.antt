-- An execution with the jobs in hand.
use Rattle.std.specs.Prelude.{List}
use Rattle.app_laws.specs.Applications.{Application}
use Rattle.run_laws.specs.Jobs.{Done, Job}
use Rattle.crew.specs.Jobs.{IsPerformed}
use Rattle.run_laws.specs.Progress.{Progress}
use Rattle.run_laws.specs.Sound.{IsSound}

module _ {V : Type 0} (app : Application V) where
  -- the jobs in hand are those of the running tasks
  pub record AreInHand (progress : Progress V) (jobs : List (Job V)) : Type 0 where
    pub values : List V
    pub sound : IsSound app progress jobs values

  -- the jobs in hand are those of the running tasks but one, which is done
  pub record IsDoneBeside (progress : Progress V) (jobs : List (Job V)) (done : Done V) : Type 0 where
    pub all : List (Job V)
    pub values : List V
    pub sound : IsSound app progress all values
    pub job : Job V
    pub performed : IsPerformed app all done job jobs
