-- What was done in a turn grows by each call.
use Rattle.std.proofs.Common.{◌≡◌, ◌≢◌, ◌-◌, ◌+◌, ℕ, List, [], ◌∷◌, ◌++◌, append-nil, length, Some, refl, sym, ap, subst, ◌∙◌, arith}
use Rattle.task_order.specs.declared.key.Key.{Key}
use Rattle.output_log.specs.Laws.{JoinsAddLengths}
use Rattle.app_laws.specs.Applications.{Application}
use Rattle.crew.specs.declared.answers.Claim.TheVariants as claim
use Rattle.crew.specs.declared.answers.FinishFault.TheVariants as fault
use Rattle.run_laws.specs.Answers.{IsClaimAnswer, IsFinishRefusal, jobs_after}
use Rattle.run_laws.specs.Events.{IsFinished}
use Rattle.run_laws.specs.Jobs.{Claim, Done, FinishFault, Job}
use Rattle.run_laws.specs.Moves.{ClaimAnswersMove, DrainsMove, EndsMove, GivingUpMoves, Moved, MovesFollow, RefusalsMove, StaysAreMoves}
use Rattle.run_laws.specs.Progress.{Progress}
use Rattle.graph_update.specs.Engine.{EngineState}
use Rattle.worker_gate.specs.Fits.{drained_count}
use Rattle.worker_gate.specs.Leaving.{ClaimsAdd, DrainsAdd, EndsAdd, GivingUpAdds, IsCalled, MovedMayLeave, NothingIsDone, RefusalsAdd}
use Rattle.worker_gate.specs.Turns.{HasMoved, TurnState}

-- ---- nothing but a drain changes how many entries were drained

module _ {V : Type 0} (app : Application V) where
  claim_drains_nothing : (old now : Progress V) (pick : ℕ) (answer : Claim V) → IsClaimAnswer app old pick now answer → drained_count now ≡ drained_count old
  claim_drains_nothing old now pick (claim.Over cause) is = ap drained_count is.1
  claim_drains_nothing old now pick claim.Ended is = ap drained_count is.2
  claim_drains_nothing old now pick claim.NotYet is = ap drained_count is.3
  claim_drains_nothing old now pick (claim.Job job) is = ap drained_count is.1.after

  end_drains_nothing : JoinsAddLengths → (old now : Progress V) (done : Done V) → IsFinished app old done now → drained_count now ≡ drained_count old
  end_drains_nothing lengths old now done finished =
      let one = lengths old.log ((done.task.key, done.effect.text) ∷ []) in
      ap drained_count finished.after ∙ omega (arith, one)

  refusal_drains_nothing : (old now : Progress V) (done : Done V) (refusal : FinishFault V) → IsFinishRefusal app old done now refusal → drained_count now ≡ drained_count old
  refusal_drains_nothing old now done (fault.Budget back created limit) is = ap drained_count is.4
  refusal_drains_nothing old now done (fault.NoRoom back) is = ap drained_count is.2

-- ---- each call

module _ {A V : Type 0} {meaning : A → Application V} where
  pub moved_may_leave : MovedMayLeave meaning
  moved_may_leave turn jobs ended found is moved other other_is =
      let same : found ≡ other = let two : Some found ≡ Some other = sym is ∙ other_is in cc in
      subst (λ (one : EngineState A V). HasMoved meaning turn jobs ended one) same moved

  pub nothing_is_done : ((app : A) → StaysAreMoves (meaning app)) → NothingIsDone meaning
  nothing_is_done stays turn = record { app = refl; moved = stays turn.engine.app turn.engine.progress turn.view.jobs; drained = λ _. refl }

  module _ (follow : (app : A) → MovesFollow (meaning app)) (turn : TurnState (EngineState A V) V) (before found : EngineState A V) (jobs : List (Job V)) (ended : List Key)
      (called : IsCalled meaning turn before jobs ended found) where
    -- one more move, which drains nothing where the seat isn't the first
    one_more : (have : List (Job V)) (more : List Key) → Moved (meaning before.app) before.progress jobs turn.engine.progress have more
        → (turn.view.number ≢ 0 → drained_count turn.engine.progress ≡ drained_count before.progress) → HasMoved meaning turn have (ended ++ more) found
    one_more have more moved drains = record {
      app = called.app ∙ called.moved.app;
      moved = follow found.app found.progress before.progress turn.engine.progress turn.view.jobs jobs have ended more called.moved.moved
          (subst (λ (own : A). Moved (meaning own) before.progress jobs turn.engine.progress have more) called.moved.app moved);
      drained = λ other. drains other ∙ called.moved.drained other;
    }

    -- no more keys
    no_more : (have : List (Job V)) → Moved (meaning before.app) before.progress jobs turn.engine.progress have []
        → (turn.view.number ≢ 0 → drained_count turn.engine.progress ≡ drained_count before.progress) → HasMoved meaning turn have ended found
    no_more have moved drains = subst (λ (keys : List Key). HasMoved meaning turn have keys found) (append-nil ended) (one_more have [] moved drains)

  pub claims_add : ((app : A) → MovesFollow (meaning app)) → ((app : A) → ClaimAnswersMove (meaning app)) → ClaimsAdd meaning
  claims_add follow claims turn before found jobs ended pick answer called is =
      no_more follow turn before found jobs ended called (jobs_after answer jobs) (claims before.app before.progress turn.engine.progress pick answer jobs is)
      (λ _. claim_drains_nothing (meaning before.app) before.progress turn.engine.progress pick answer is)

  pub ends_add : JoinsAddLengths → ((app : A) → MovesFollow (meaning app)) → ((app : A) → EndsMove (meaning app)) → EndsAdd meaning
  ends_add lengths follow ends turn before found jobs ended done job others called performed within finished =
      one_more follow turn before found jobs ended called others (done.task.key ∷ []) (ends before.app before.progress turn.engine.progress done job jobs others performed within finished)
      (λ _. end_drains_nothing (meaning before.app) lengths before.progress turn.engine.progress done finished)

  pub refusals_add : ((app : A) → MovesFollow (meaning app)) → ((app : A) → RefusalsMove (meaning app)) → RefusalsAdd meaning
  refusals_add follow refusals turn before found jobs ended done refusal job others called performed refused =
      no_more follow turn before found jobs ended called jobs (refusals before.app before.progress turn.engine.progress done refusal job jobs others performed refused)
      (λ _. refusal_drains_nothing (meaning before.app) before.progress turn.engine.progress done refusal refused)

  pub giving_up_adds : ((app : A) → MovesFollow (meaning app)) → ((app : A) → GivingUpMoves (meaning app)) → GivingUpAdds meaning
  giving_up_adds follow gives_up turn before found jobs ended called is =
      no_more follow turn before found jobs ended called jobs
      (subst (λ (now : Progress V). Moved (meaning before.app) before.progress jobs now jobs []) (sym is) (gives_up before.app before.progress jobs))
      (λ _. ap drained_count is)

  pub drains_add : ((app : A) → MovesFollow (meaning app)) → ((app : A) → DrainsMove (meaning app)) → DrainsAdd meaning
  drains_add follow drains turn before found jobs ended first called is =
      no_more follow turn before found jobs ended called jobs
      (subst (λ (now : Progress V). Moved (meaning before.app) before.progress jobs now jobs []) (sym is) (drains before.app before.progress jobs))
      (λ other. absurd (other first))
