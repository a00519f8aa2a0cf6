-- What the end of a task makes of a sound execution, part by part.
use Rattle.std.specs.Prelude.{◌≡◌, ◌≤◌, true, List, Contains, Some}
use Rattle.std.specs.List.{AllByRecursion}
use Rattle.cell_store.specs.Cells.{AreWrittenOut, IsBundle, cells_given, part_of}
use Rattle.cell_store.specs.Values.{AgreesWith, homes}
use Rattle.output_log.specs.Entries.{IsNewEntry}
use Rattle.kdg_graph.specs.Node.{Node}
use Rattle.kdg_graph.specs.Nodes.{node_at, node_with_key, tasks_of}
use Rattle.kdg_graph.specs.Rewrite.{HaveNewKeys}
use Rattle.app_laws.specs.Applications.{Application, IsFitTask, effect_of, set_in}
use Rattle.commuting.specs.Clear.{IsReady}
use Rattle.commuting.specs.States.{after_task}
use Rattle.crew.specs.Jobs.{IsPerformed}
use Rattle.run_laws.specs.Events.{IsFinished, IsOverLimit, fresh_from}
use Rattle.run_laws.specs.Jobs.{Done, Job}
use Rattle.run_laws.specs.Progress.{Progress, whole_state}
use Rattle.run_laws.specs.Sound.{IsSound}

module _ {V : Type 0} (app : Application V) where
  -- what is known of the node of a job that was performed
  pub record IsEnded (old : Progress V) (values : List V) (done : Done V) (job : Job V) (node : Node) : Type 0 where
    pub there : Contains old.nodes node
    pub found : node_with_key old.nodes done.task.key ≡ Some node
    pub at_id : node_at old.nodes node.id ≡ Some node
    pub task : node.task ≡ job.task
    pub job_task : job.task ≡ done.task
    pub running : node.running ≡ true
    pub job_set : node.set ≡ job.bundle.set
    pub set : node.set ≡ set_in app values job.task
    pub bundle : job.bundle ≡ part_of (homes values) (set_in app values job.task)
    pub effect : done.effect ≡ effect_of app job.task values

  -- what is known of a job that was performed, before its task ends
  pub record IsPerformedTask (old : Progress V) (values : List V) (done : Done V) (job : Job V) : Type 0 where
    pub node : Node
    pub ended : IsEnded old values done job node
    pub id : node.id ≡ done.node
    pub fit : IsFitTask app job.task
    pub fit_after : app.is_fit_cells (app.act job.task values).cells
    pub set : done.effect.bundle.set ≡ job.bundle.set
    pub out : AreWrittenOut old.cells done.effect.bundle.set
    pub whole : IsBundle done.effect.bundle
    pub given : AgreesWith (cells_given old.cells done.effect.bundle) (app.act job.task values).cells
    pub children_later : AllByRecursion (λ child. done.task.key.prio ≤ child.prio) done.effect.children
    pub children_fit : AllByRecursion (λ child. app.is_fit_task child.prio child.body) done.effect.children
    pub new_entry : IsNewEntry job.task.key old.log
    pub new_keys : HaveNewKeys (tasks_of old.nodes) (fresh_from done.task.key 0 done.effect.children)
    pub handed : AllByRecursion (λ item. item.set ≡ set_in app (app.act job.task values).cells item.task) (fresh_from done.task.key 0 done.effect.children)

  abbrev pub PerformedTasksAreKnown : Type 0
  PerformedTasksAreKnown = (old : Progress V) (done : Done V) (job : Job V) (jobs others : List (Job V)) (values : List V) →
      IsSound app old jobs values → IsPerformed app jobs done job others → IsPerformedTask old values done job

  -- one of the jobs of a sound execution is performed, and its task ends within the limit
  pub record IsEnd (old : Progress V) (jobs : List (Job V)) (values : List V) (done : Done V) (job : Job V) (others : List (Job V)) (now : Progress V) : Type 0 where
    pub sound : IsSound app old jobs values
    pub performed : IsPerformed app jobs done job others
    pub within : ¬ IsOverLimit app old done
    pub finished : IsFinished app old done now

  -- what holds of each end of a task
  abbrev pub OfEachEnd : ((old : Progress V) (values : List V) (done : Done V) (job : Job V) (others : List (Job V)) (now : Progress V) → Type 0) → Type 0
  OfEachEnd P = (old now : Progress V) (done : Done V) (job : Job V) (jobs others : List (Job V)) (values : List V) →
      IsEnd old jobs values done job others now → P old values done job others now

  -- the effect is what the operator makes of the whole cells
  abbrev pub EffectsAreOfWhole : Type 0
  EffectsAreOfWhole = OfEachEnd (λ old values done job others now. done.effect ≡ effect_of app job.task values)

  -- the whole cells and the pending tasks after it are what the operator makes of those before
  abbrev pub FinishesActOnWhole : Type 0
  FinishesActOnWhole = OfEachEnd (λ old values done job others now.
      whole_state now (app.act job.task values).cells ≡ after_task app.act job.task (whole_state old values))

  -- and they are ready again
  abbrev pub FinishesStayReady : Type 0
  FinishesStayReady = OfEachEnd (λ old values done job others now. IsReady app (whole_state now (app.act job.task values).cells))
