-- Where a task doesn't act, or the end of a job is refused, the run is at fault.
use Rattle.std.proofs.Common.{◌≡◌, ◌+◌, ◌∙◌, ℕ, List, ◌∷◌, length, arith, subst}
use Rattle.cell_store.specs.Values.{values_of}
use Rattle.kdg_graph.specs.declared.node_id.NodeId.{NodeId}
use Rattle.app_laws.specs.Applications.{Application}
use Rattle.commuting.specs.States.{State}
use Rattle.run_laws.specs.Jobs.{Done, FinishFault, Job}
use Rattle.crew.specs.declared.answers.FinishFault.TheVariants as refusal
use Rattle.crew.specs.declared.answers.OverCause.{OverCause}
use Rattle.crew.specs.declared.answers.OverCause.TheVariants as cause
use Rattle.run_laws.specs.Acting.{IsActFault}
use Rattle.run_laws.specs.Answers.{IsFinishRefusal}
use Rattle.crew.specs.Faults.{cause_of}
use Rattle.run_laws.specs.Progress.{Progress}
use Rattle.source_pool.specs.Course.{IsActing, IsEnding, IsJobDone}
use Rattle.source_pool.specs.Kept.{PassesWith}
use Rattle.source_pool.specs.KeptLaws.{ActsPassWithTheRound, EndsPassWithTheRound}
use Rattle.source_pool.specs.Laws.{TooManyActsNeverEnd, TooManyNeverEnd}
use Rattle.source_pool.specs.Runs.{IsRunFault}

module _ {V : Type 0} (app : Application V) where
  pub not_acted : TooManyActsNeverEnd app → (start now next : Progress V) (target : State V) (text : List ℕ) (id : NodeId) (ids : List NodeId)
      → IsActing app start (values_of start.cells) target text now (id ∷ ids) → (why : OverCause) → IsActFault app now id next why → IsRunFault app start why
  not_acted never start now next target text id ids acting (cause.Budget created limit) many =
      let ends = never start now next (values_of start.cells) target text id ids created limit acting many in
      record { too_long = ends.0; limit_is = ends.1; above = ends.2 }
  not_acted never start now next target text id ids acting cause.NoRoom is = tt

  pub refused : TooManyNeverEnd app → (start now next : Progress V) (target : State V) (text : List ℕ) (job : Job V) (jobs : List (Job V)) (done : Done V)
      → IsEnding app start (values_of start.cells) target text now (job ∷ jobs) → IsJobDone app job done → (fault : FinishFault V) → IsFinishRefusal app now done next fault
      → IsRunFault app start (cause_of fault)
  refused never start now next target text job jobs done ending performed (refusal.Budget back created limit) is = record {
    too_long = never start now (values_of start.cells) target text job jobs done ending performed is.1;
    limit_is = is.3 ∙ ending.course.come.limit;
    above = omega (arith, is.1, is.2, is.3);
  }
  refused never start now next target text job jobs done ending performed (refusal.NoRoom back) is = tt

  pub acts_pass : ActsPassWithTheRound app → (start now next : Progress V) (target : State V) (text : List ℕ) (id : NodeId) (ids : List NodeId)
      → IsActing app start (values_of start.cells) target text now (id ∷ ids) → (why : OverCause) → IsActFault app now id next why
      → PassesWith start.limit (now.ended + length (id ∷ ids)) target why
  acts_pass passes start now next target text id ids acting (cause.Budget created limit) many =
      omega (arith, passes start now next (values_of start.cells) target text id ids created limit acting many)
  acts_pass passes start now next target text id ids acting cause.NoRoom is = tt

  pub ends_pass : EndsPassWithTheRound app → (start now next : Progress V) (target : State V) (text : List ℕ) (job : Job V) (jobs : List (Job V)) (done : Done V)
      → IsEnding app start (values_of start.cells) target text now (job ∷ jobs) → IsJobDone app job done → (fault : FinishFault V) → IsFinishRefusal app now done next fault
      → PassesWith start.limit (now.ended + length (job ∷ jobs)) target (cause_of fault)
  ends_pass passes start now next target text job jobs done ending performed (refusal.Budget back created limit) is =
      omega (arith, passes start now (values_of start.cells) target text job jobs done ending performed is.1)
  ends_pass passes start now next target text job jobs done ending performed (refusal.NoRoom back) is = tt

-- the number of ended tasks that comes to the same
pub passes_at : {V : Type 0} (most ended other : ℕ) (state : State V) (why : OverCause) → ended ≡ other → PassesWith most ended state why → PassesWith most other state why
passes_at most ended other state why same passes = subst (λ n. PassesWith most n state why) same passes
