-- What may be done with jobs, and what was.
use Rattle.std.specs.Prelude.{◌≡◌, List, ◌∷◌, ◌++◌}
use Rattle.app_laws.specs.Applications.{Application, IsEffect, IsFitTask, IsTaken}
use Rattle.crew.specs.declared.job.Done.{Done}
use Rattle.crew.specs.declared.job.Job.{Job}

module _ {N V : Type 0} (app : Application V) where
  -- a job has a task of the application, and what that task takes of cells of it
  pub record MayRun (job : Job N V) : Type 0 where
    pub fit : IsFitTask app job.task
    pub taken : IsTaken app job.task job.bundle

  -- one of the jobs is the task that is done, with its effect, and these are the others
  pub record IsPerformed (jobs : List (Job N V)) (done : Done N V) (job : Job N V) (others : List (Job N V)) : Type 0 where
    pub before : List (Job N V)
    pub after : List (Job N V)
    pub there : jobs ≡ before ++ job ∷ after
    pub others_are : others ≡ before ++ after
    pub node : job.node ≡ done.node
    pub task : job.task ≡ done.task
    pub effect : IsEffect app job.task job.bundle done.effect
