-- The jobs of a sound execution, and one of them performed.
use Rattle.std.proofs.Common.{List, [], ◌∷◌, refl, subst}
use Rattle.std.specs.Prelude.{Contains}
use Rattle.plain_laws.specs.Members.{all_at}
use Rattle.kdg_graph.specs.Node.{Node}
use Rattle.app_laws.specs.Applications.{Application}
use Rattle.commuting.specs.Clear.{IsClear}
use Rattle.crew.specs.Jobs.{IsPerformed}
use Rattle.run_laws.specs.Jobs.{Done, Job}
use Rattle.run_laws.specs.Progress.{Progress, whole_state}
use Rattle.run_laws.specs.Sound.{IsOfNode, IsRunningAs, IsSound}
use Rattle.source_pool.specs.Basis.{Basis}
use Rattle.source_pool.specs.Course.{IsJobDone}

-- the first of the jobs is performed
pub first_performed : {V : Type 0} (app : Application V) (job : Job V) (jobs : List (Job V)) (done : Done V) → IsJobDone app job done → IsPerformed app (job ∷ jobs) done job jobs
first_performed app job jobs done is = record { before = []; after = jobs; there = refl; others_are = refl; node = is.node; task = is.task; effect = is.effect }

module _ {V : Type 0} {app : Application V} (basis : Basis app) where
  -- the running node of a job
  pub record HasNode (progress : Progress V) (job : Job V) : Type 0 where
    pub node : Node
    pub there : Contains progress.nodes node
    pub is : IsRunningAs app job node

  pub node_of : (progress : Progress V) (jobs : List (Job V)) (values : List V) (job : Job V) → IsSound app progress jobs values → Contains jobs job → HasNode progress job
  node_of progress jobs values job sound has =
      let named : IsOfNode app progress.nodes job = all_at (IsOfNode app progress.nodes) jobs job sound.outs_match.named has in
      record { node = named.0; there = (basis.keys_find progress.nodes job.task.key named.0 named.1).0; is = named.2 }

  -- its task is a clear one of the whole state
  pub job_is_clear : (progress : Progress V) (jobs : List (Job V)) (values : List V) (job : Job V) → IsSound app progress jobs values → Contains jobs job → IsClear app (whole_state progress values) job.task
  job_is_clear progress jobs values job sound has =
      let its = node_of progress jobs values job sound has in
      subst (IsClear app (whole_state progress values)) its.is.task (basis.suffice.running progress jobs values its.node sound its.there its.is.running)
