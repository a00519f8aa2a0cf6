-- The task that ends, and what its end makes of the whole cells and of the pending tasks.
use Rattle.std.proofs.Common.{◌≡◌, List, sym, ap, subst, ◌∙◌}
use Rattle.std.specs.Prelude.{Contains}
use Rattle.plain_laws.specs.Members.{all_at}
use Rattle.task_order.specs.declared.task.Task.{Task}
use Rattle.task_order.specs.TaskList.{put_all, without}
use Rattle.kdg_graph.specs.Nodes.{tasks_of}
use Rattle.app_laws.specs.Applications.{Application}
use Rattle.app_laws.specs.Execution.{children_from}
use Rattle.commuting.specs.Clear.{IsReady}
use Rattle.commuting.specs.States.{after_task, state_of}
use Rattle.run_laws.specs.Jobs.{Done, Job}
use Rattle.run_laws.specs.Events.{fresh_from}
use Rattle.run_laws.specs.FinishBasis.{FinishBasis}
use Rattle.run_laws.specs.Finishes.{IsEnded, IsEnd, EffectsAreOfWhole, FinishesActOnWhole, FinishesStayReady}
use Rattle.run_laws.specs.Progress.{Progress, whole_state}
use Rattle.run_laws.specs.Sound.{Covers}
use Rattle.run_laws.proofs.Performed.{fresh_are, is_pending, named, performed_node}

module _ {V : Type 0} {app : Application V} (basis : FinishBasis app) where
  module _ {old now : Progress V} {done : Done V} {job : Job V} {jobs others : List (Job V)} {values : List V} (end : IsEnd app old jobs values done job others now) where
    same_node : (named basis end.sound end.performed).0 ≡ end.finished.node
    same_node =
        let of_job = (performed_node basis end.sound end.performed).found in
        let by_done = end.finished.found in
        cc

    pub ended_node : IsEnded app old values done job end.finished.node
    ended_node = subst (IsEnded app old values done job) same_node (performed_node basis end.sound end.performed)

    pub is_there : Contains old.nodes end.finished.node
    is_there = ended_node.there

    pub covered : Covers app old.cells values end.finished.node
    covered = all_at (λ node. Covers app old.cells values node) old.nodes end.finished.node end.sound.recorded_covers is_there

    pub tasks_after : tasks_of now.nodes ≡ put_all (children_from job.task.key 0 (app.act job.task values).children) (without job.task.key (tasks_of old.nodes))
    tasks_after =
        let ended = ended_node in
        basis.replaces old.nodes end.finished.node.id _ (fresh_from done.task.key 0 done.effect.children) now.nodes end.finished.node end.sound.keys_and_counts.graph end.finished.nodes ended.at_id
        ∙ ap (λ new. put_all new (without end.finished.node.task.key (tasks_of old.nodes))) (fresh_are basis end.sound end.performed)
        ∙ ap (λ (task : Task). put_all (children_from job.task.key 0 (app.act job.task values).children) (without task.key (tasks_of old.nodes))) ended.task

    pub whole_after : whole_state now (app.act job.task values).cells ≡ after_task app.act job.task (whole_state old values)
    whole_after = ap (state_of (app.act job.task values).cells) tasks_after

    pub ready_after : IsReady app (whole_state now (app.act job.task values).cells)
    ready_after = subst (IsReady app) (sym whole_after) (basis.stays_ready (whole_state old values) job.task end.sound.ready (is_pending basis end.sound end.performed))

  pub effect_is_of_whole : EffectsAreOfWhole app
  effect_is_of_whole old now done job jobs others values end = (ended_node end).effect

  pub acts_on_whole : FinishesActOnWhole app
  acts_on_whole old now done job jobs others values end = whole_after end

  pub stays_ready : FinishesStayReady app
  stays_ready old now done job jobs others values end = ready_after end
