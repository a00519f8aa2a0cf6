-- What holds of a worker's seat between its turns.
use Rattle.std.proofs.Common.{◌≡◌, List, [], ◌∷◌, refl, sym, subst, ◌∙◌}
use Rattle.app_laws.specs.Applications.{Application, IsEffect}
use Rattle.run_laws.specs.Jobs.{Done, Job}
use Rattle.graph_update.specs.Engine.{EngineState}
use Rattle.worker_gate.specs.Turns.{HallState, SeatState}
use Rattle.hall_trials.specs.Seated.{HasWorked, IsLeftBy, IsOnlyJob, MayWork}

module _ {A V : Type 0} {hall : HallState (EngineState A V)} where
  pub not_yet : {app : A} {seat : SeatState (EngineState A V) V} → MayWork hall app seat → IsLeftBy hall seat [] seat
  not_yet may = record { worked = record { seated = may.seated; number = refl; unjoined = refl }; jobs_are = may.idle }

  pub may_go_on : {app : A} {old now : SeatState (EngineState A V) V} → MayWork hall app old → IsLeftBy hall old [] now → MayWork hall app now
  may_go_on may left = record { seated = left.worked.seated; app_is = may.app_is; idle = left.jobs_are }

  pub worked_on : {old mid now : SeatState (EngineState A V) V} → HasWorked hall old mid → HasWorked hall mid now → HasWorked hall old now
  worked_on one two = record {
    seated = two.seated;
    number = two.number ∙ one.number;
    unjoined = two.unjoined ∙ one.unjoined;
  }

  pub goes_on : {old mid now : SeatState (EngineState A V) V} → HasWorked hall old mid → HasWorked hall mid now → now.view.jobs ≡ [] → IsLeftBy hall old [] now
  goes_on one two idle = record { worked = worked_on one two; jobs_are = idle }

module _ {A V : Type 0} where
  -- what was performed of the only job
  pub is_only : (meaning : A → Application V) {app : A} {jobs : List (Job V)} {job : Job V} {done : Done V} (origin : A) → app ≡ origin → jobs ≡ job ∷ [] → done.node ≡ job.node → done.task ≡ job.task
      → IsEffect (meaning app) job.task job.bundle done.effect → IsOnlyJob (meaning origin) jobs done
  is_only meaning {app} {jobs} {job} {done} origin same only node task effect = record {
    job = job;
    only = only;
    node = sym node;
    task = sym task;
    effect = subst (λ (a : A). IsEffect (meaning a) job.task job.bundle done.effect) same effect;
  }
