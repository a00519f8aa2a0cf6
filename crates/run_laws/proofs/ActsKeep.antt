-- A task that acts keeps an execution sound, whatever jobs are in hand beside it.
use Rattle.std.proofs.Common.{◌≡◌, inl, inr, ⊎_elim, List, [], ◌∷◌, Some, refl, sym, ap, subst, ◌∙◌}
use Rattle.plain_laws.specs.Options.{some_injective}
use Rattle.task_order.specs.declared.task.Task.{Task}
use Rattle.kdg_graph.specs.declared.node_id.NodeId.{NodeId}
use Rattle.kdg_graph.specs.Node.{Node}
use Rattle.kdg_graph.specs.Nodes.{IsGraph, node_at, tasks_of}
use Rattle.app_laws.specs.Applications.{Application}
use Rattle.commuting.specs.States.{after_task, state_of}
use Rattle.crew.specs.declared.answers.OverCause.{OverCause}
use Rattle.crew.specs.declared.answers.OverCause.TheVariants as cause
use Rattle.run_laws.specs.Jobs.{Done, Job}
use Rattle.run_laws.specs.Acting.{ActStaysSound, ActsActOnWhole, HasActed, IsActFault, IsPlayed, IsStuck, RefusedActStaysSound}
use Rattle.run_laws.specs.Basis.{Basis}
use Rattle.run_laws.specs.Events.{marked}
use Rattle.run_laws.specs.Finishes.{FinishesActOnWhole, IsEnd}
use Rattle.run_laws.specs.Laws.{FinishesKeepSound}
use Rattle.crew.specs.Jobs.{IsPerformed}
use Rattle.run_laws.specs.Progress.{Progress, whole_state}
use Rattle.run_laws.specs.Sound.{IsSound}
use Rattle.run_laws.proofs.Claims.{claimed_is_clear, claims_keep_sound}
use Rattle.run_laws.proofs.Marks.{marks_and_drains_keep_sound}

module _ {V : Type 0} {app : Application V} {old : Progress V} {id : NodeId} {midway : Progress V} {done : Done V} (played : IsPlayed app old id midway done) where
  -- the job is one of those in hand, and the others are those that were there before
  pub beside : (jobs : List (Job V)) → IsPerformed app (played.job ∷ jobs) done played.job jobs
  beside jobs =
      let alone = played.performed in
      record { before = []; after = jobs; there = refl; others_are = refl; node = alone.node; task = alone.task; effect = alone.effect }

  -- it has the task of the node that the id finds
  pub its_task : Basis app → IsGraph old.nodes → (node : Node) → node_at old.nodes id ≡ Some node → played.job.task ≡ node.task
  its_task basis graph node at =
      let claimed = played.started.claimed in
      let its : claimed.node.id ≡ id = sym (ap (λ (job : Job V). job.node) claimed.job_is) ∙ played.started.node in
      let found = ap (node_at old.nodes) (sym its) ∙ basis.lower.have_ids old.nodes claimed.node graph (claimed_is_clear claimed).0 in
      ap (λ (job : Job V). job.task) claimed.job_is ∙ ap (λ (node : Node). node.task) (some_injective claimed.node node (sym found ∙ at))

module _ {V : Type 0} {app : Application V} (basis : Basis app) {old : Progress V} {id : NodeId} where
  claimed_sound : {midway : Progress V} {done : Done V} (played : IsPlayed app old id midway done) (jobs : List (Job V)) (values : List V)
      → IsSound app old jobs values → IsSound app midway (played.job ∷ jobs) values
  claimed_sound {midway} played jobs values sound = claims_keep_sound basis old midway played.started.pick played.job jobs values sound played.started.claimed

module _ {V : Type 0} {app : Application V} (basis : Basis app) {old : Progress V} {id : NodeId} {now : Progress V} where
  pub acts_keep_sound : FinishesKeepSound app → HasActed app old id now → ActStaysSound app old id now
  acts_keep_sound finishes acted jobs values node at sound =
      let played = acted.played in
      subst (λ (task : Task). IsSound app now jobs (app.act task values).cells) (its_task played basis sound.keys_and_counts.graph node at)
      (finishes acted.midway now acted.done played.job (played.job ∷ jobs) jobs values (claimed_sound basis played jobs values sound) (beside played jobs) acted.within acted.finished)

  -- what holds with one job more, and a mark
  marked_sound : {midway : Progress V} {done : Done V} (played : IsPlayed app old id midway done) (over : OverCause) → now ≡ marked app midway over → RefusedActStaysSound app old id now
  marked_sound {midway} played over after jobs values sound = inr (
    played.job,
    played.started.node,
    subst (λ (progress : Progress V). IsSound app progress (played.job ∷ jobs) values) (sym after)
        ((marks_and_drains_keep_sound basis).marked_one midway over (played.job ∷ jobs) values (claimed_sound basis played jobs values sound)),
  )

  pub act_faults_keep_sound : (fault : OverCause) → IsActFault app old id now fault → RefusedActStaysSound app old id now
  act_faults_keep_sound (cause.Budget created limit) many = marked_sound many.played (cause.Budget _ _) many.after
  act_faults_keep_sound cause.NoRoom is = ⊎_elim
      (λ (same : now ≡ old). λ jobs values sound. inl (subst (λ (progress : Progress V). IsSound app progress jobs values) (sym same) sound))
      (λ (stuck : IsStuck app old id now). marked_sound stuck.played cause.NoRoom stuck.after) is

-- the whole cells and the pending tasks are what the operator makes of those before
pub acts_act_on_whole : {V : Type 0} {app : Application V} → Basis app → FinishesActOnWhole app → ActsActOnWhole app
acts_act_on_whole {V} {app} basis finishes old now id node jobs values acted at sound =
    let played = acted.played in
    let claimed = played.started.claimed in
    let midway = claimed_sound basis played jobs values sound in
    let end : IsEnd app acted.midway (played.job ∷ jobs) values acted.done played.job jobs now = record { sound = midway; performed = beside played jobs; within = acted.within; finished = acted.finished } in
    let same = ap (state_of values) (ap (λ (progress : Progress V). tasks_of progress.nodes) claimed.after ∙ basis.lower.starts_keep_tasks claimed.node.id old.nodes) in
    subst (λ (task : Task). whole_state now (app.act task values).cells ≡ after_task app.act task (whole_state old values)) (its_task played basis sound.keys_and_counts.graph node at)
    (finishes acted.midway now acted.done played.job (played.job ∷ jobs) jobs values end ∙ ap (after_task app.act played.job.task) same)
