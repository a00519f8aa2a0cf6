-- An execution while nothing is running.
use Rattle.std.proofs.Common.{◌≡◌, not, true, false, List, [], ◌∷◌, refl, sym, ap, subst, ◌∙◌, arith}
use Rattle.std.specs.Prelude.{Contains}
use Rattle.std.specs.List.{AllByRecursion}
use Rattle.std.proofs.lemmas.Bool.{and_from, true≢false}
use Rattle.plain_laws.specs.Members.{here, all_at, all_from, in_map}
use Rattle.task_order.specs.TaskList.{IsAscending}
use Rattle.cell_store.specs.declared.cell.Cell.{Cell}
use Rattle.cell_store.specs.declared.cell.Cell.TheVariants.{Home, Out}
use Rattle.cell_store.specs.Cells.{cell_at}
use Rattle.cell_store.specs.Home.{IsHome}
use Rattle.cell_store.specs.Values.{AreAllHome, homes, values_of}
use Rattle.kdg_graph.specs.Node.{Node}
use Rattle.kdg_graph.specs.Nodes.{earlier_than, tasks_of}
use Rattle.app_laws.specs.Applications.{Application, IsFitTask, set_in}
use Rattle.run_laws.specs.Basis.{Basis}
use Rattle.run_laws.specs.Jobs.{Job}
use Rattle.run_laws.specs.Progress.{Progress}
use Rattle.run_laws.specs.Sound.{Covers, HasJob, IsOfNode, IsSound}
use Rattle.run_laws.specs.Rest.{IdleIsSound, IsAtRest, NoJobsAreRest, NoJobsWhereNoneRuns, NoneRuns}
use Rattle.run_laws.proofs.ClearNodes.{earliest_first, idle, unblocked_where_first}

module _ {V : Type 0} {app : Application V} (basis : Basis app) where
  idle_without_jobs : (progress : Progress V) (jobs : List (Job V)) (values : List V) → IsSound app progress jobs values → jobs ≡ [] → (node : Node) → Contains progress.nodes node → node.running ≡ false
  idle_without_jobs progress jobs values sound no_jobs node has =
      idle basis node.running (λ running.
      let some : HasJob app jobs node = all_at (λ (n : Node). n.running ≡ true → HasJob app jobs n) progress.nodes node sound.outs_match.all has running in
      let never : HasJob app [] node = subst (λ (held : List (Job V)). HasJob app held node) no_jobs some in
      true≢false (sym never))

  -- a job has a node that is running
  has_running_node : (progress : Progress V) (job : Job V) → IsOfNode app progress.nodes job → (node : Node) × Contains progress.nodes node × (node.running ≡ true)
  has_running_node progress job (node, found, fits) = (node, (basis.lower.keys_find progress.nodes job.task.key node found).0, fits.running)

  none_where_idle : (progress : Progress V) (jobs : List (Job V)) → AllByRecursion (IsOfNode app progress.nodes) jobs → NoneRuns progress.nodes → jobs ≡ []
  none_where_idle progress [] named idle = refl
  none_where_idle progress (job ∷ jobs) named idle =
      let node = has_running_node progress job named.0 in
      absurd (true≢false (sym node.2 ∙ all_at (λ (n : Node). n.running ≡ false) progress.nodes node.0 idle node.1))

  pub no_jobs_where_none_runs : NoJobsWhereNoneRuns app
  no_jobs_where_none_runs progress jobs values sound = (
    λ no_jobs. all_from (λ (n : Node). n.running ≡ false) progress.nodes (idle_without_jobs progress jobs values sound no_jobs),
    none_where_idle progress jobs sound.outs_match.named,
  )

  module _ (progress : Progress V) (values : List V) (sound : IsSound app progress [] values) where
    all_home : AreAllHome progress.cells
    all_home loc inside = by_cell (cell_at progress.cells loc) refl
      where
        by_cell : (cell : Cell V) → cell_at progress.cells loc ≡ cell → IsHome cell
        by_cell (Home value) is = tt
        by_cell Out is = true≢false (sym ((sound.whole.away loc inside).0 is))

    cells_are_values : progress.cells ≡ homes values
    cells_are_values = basis.cells.agreement.all_home progress.cells values sound.whole.home all_home

    true_set : (node : Node) → Contains progress.nodes node → node.set ≡ set_in app values node.task
    true_set node has =
        let covers = all_at (Covers app progress.cells values) progress.nodes node sound.recorded_covers has in
        covers.home (λ loc named.
        let below = covers.in_range.below loc named in
        let count = basis.lawful.cells_are_counted values sound.ready.cells in
        let many = sound.whole.home.as_many in
        all_home loc (omega (arith, below, count, many)))

    pub at_rest : IsAtRest app progress values
    at_rest = record {
      cells = cells_are_values;
      sets = all_from (λ (n : Node). n.set ≡ set_in app values n.task) progress.nodes true_set;
      least = λ node others is.
          let has = subst (λ nodes. Contains nodes node) (sym is) (here node others) in
          let ascending = subst (λ nodes. IsAscending (tasks_of nodes)) is sound.keys_and_counts.graph.ascending in
          let first = ap (earlier_than node.task.key) is ∙ earliest_first basis node others ascending.0 in
          let fit = all_at (IsFitTask app) (tasks_of progress.nodes) node.task sound.ready.tasks (in_map (λ (n : Node). n.task) progress.nodes node has) in
          and_from _ _ (ap not (idle_without_jobs progress [] values sound refl node has)) (unblocked_where_first basis progress.nodes node fit first);
    }

  pub no_jobs_are_rest : NoJobsAreRest app
  no_jobs_are_rest progress values sound = at_rest progress values sound

  -- the values of the cells are those of the whole ones
  pub home_values : (progress : Progress V) (values : List V) → IsSound app progress [] values → values_of progress.cells ≡ values
  home_values progress values sound = ap values_of (cells_are_values progress values sound) ∙ basis.cells.values.values_of_homes values

  pub idle_is_sound : IdleIsSound app
  idle_is_sound progress jobs values sound idle =
      let alone = subst (λ (held : List (Job V)). IsSound app progress held values) ((no_jobs_where_none_runs progress jobs values sound).1 idle) sound in
      subst (IsSound app progress []) (sym (home_values progress values alone)) alone
