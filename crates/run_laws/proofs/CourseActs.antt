-- Where a task acts, or doesn't come to its end, an execution has come from its start, whatever jobs are in hand beside it.
use Rattle.std.proofs.Common.{◌≡◌, inl, inr, ⊎_elim, List, ◌∷◌, subst}
use Rattle.task_order.specs.declared.task.Task.{Task}
use Rattle.output_log.specs.Entries.{Entry, with_entry}
use Rattle.kdg_graph.specs.declared.node_id.NodeId.{NodeId}
use Rattle.app_laws.specs.Applications.{Application}
use Rattle.crew.specs.declared.answers.OverCause.TheVariants as cause
use Rattle.run_laws.specs.Acting.{IsPlayed, IsStuck}
use Rattle.run_laws.specs.Course.{HasCome}
use Rattle.run_laws.specs.CourseBasis.{CourseBasis}
use Rattle.run_laws.specs.CourseLaws.{ActFaultsKeepCourse, ActsKeepCourse}
use Rattle.run_laws.specs.Jobs.{Done, Job}
use Rattle.run_laws.specs.Progress.{Progress}
use Rattle.run_laws.proofs.ActsKeep.{beside, its_task}
use Rattle.run_laws.proofs.Course.{claims_keep_course, giving_up_keeps_course, unchanged}
use Rattle.run_laws.proofs.CourseEnds.{ends_keep_course, passed_limits_keep_course}

module _ {V : Type 0} {app : Application V} (basis : CourseBasis app) where
  -- the moment between the claim of a task and its end
  at_midway : {start old midway : Progress V} {cells : List V} {before entries : List Entry} {id : NodeId} {done : Done V} {jobs : List (Job V)} {values : List V} → (played : IsPlayed app old id midway done)
      → HasCome app start cells before entries old jobs values → HasCome app start cells before entries midway (played.job ∷ jobs) values
  at_midway {start} {old} {midway} {cells} {before} {entries} {id} {done} {jobs} {values} played come =
      claims_keep_course basis start cells before entries old midway played.started.pick played.job jobs values come played.started.claimed

  pub acts_keep_course : ActsKeepCourse app
  acts_keep_course start cells before entries old now id node jobs values come acted at =
      let played = acted.played in
      subst (λ (task : Task). HasCome app start cells before (with_entry task.key (app.act task values).text entries) now jobs (app.act task values).cells)
      (its_task played basis.begun come.sound.keys_and_counts.graph node at)
      (ends_keep_course basis start cells before entries acted.midway now acted.done played.job (played.job ∷ jobs) jobs values (at_midway played come) (beside played jobs) acted.within acted.finished)

  pub act_faults_keep_course : ActFaultsKeepCourse app
  act_faults_keep_course start cells before entries old now id (cause.Budget created limit) jobs values come many =
      let played = many.played in
      inr (
        played.job,
        played.started.node,
        unchanged app start cells before entries _ now (played.job ∷ jobs) values many.after
            (passed_limits_keep_course basis start cells before entries many.midway many.done played.job (played.job ∷ jobs) jobs values (at_midway played come) (beside played jobs) many.above),
      )
  act_faults_keep_course start cells before entries old now id cause.NoRoom jobs values come is = ⊎_elim
      (λ (same : now ≡ old). inl (unchanged app start cells before entries old now jobs values same come))
      (λ (stuck : IsStuck app old id now).
      let played = stuck.played in
      inr (
        played.job,
        played.started.node,
        unchanged app start cells before entries _ now (played.job ∷ jobs) values stuck.after (giving_up_keeps_course basis start cells before entries stuck.midway (played.job ∷ jobs) values (at_midway played come)),
      )) is
