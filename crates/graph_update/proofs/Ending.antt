-- How an execution is left when no task is pending.
use Rattle.std.proofs.Common.{◌≡◌, List, [], sym, subst}
use Rattle.cell_store.specs.Values.{homes}
use Rattle.app_laws.specs.Applications.{Application}
use Rattle.graph_update.specs.Basis.{Basis}
use Rattle.run_laws.specs.Jobs.{Job}
use Rattle.run_laws.specs.Progress.{Progress}
use Rattle.run_laws.specs.Sound.{IsSound}
use Rattle.run_laws.specs.Rest.{NoneRuns}

-- where no node is left the cells are all home, and they are the whole cells
pub ends_whole : {V : Type 0} {app : Application V} → Basis app → (progress : Progress V) (jobs : List (Job V)) (values : List V) → progress.nodes ≡ [] → IsSound app progress jobs values
    → (own : List V) × IsSound app progress [] own × (progress.cells ≡ homes own)
ends_whole {app = app} basis progress jobs values empty sound =
    let idle = (basis.no_jobs progress jobs values sound).1 (subst NoneRuns (sym empty) tt) in
    let left = subst (λ some. IsSound app progress some values) idle sound in
    (values, left, (basis.at_rest progress values left).cells)
