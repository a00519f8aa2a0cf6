-- What the ends of tasks and claims move.
use Rattle.std.proofs.Common.{◌≡◌, ◌≢◌, ℕ, List, [], ◌∷◌, length, Option, Some, None, sym, ap, subst, arith}
use Rattle.std.specs.Option.{option_or}
use Rattle.output_log.specs.Entries.{Entry}
use Rattle.output_log.specs.Laws.{JoinsAddLengths, JoinsWithOne}
use Rattle.app_laws.specs.Applications.{Application}
use Rattle.crew.specs.Jobs.{IsPerformed}
use Rattle.crew.specs.declared.answers.FinishFault.TheVariants as refusal
use Rattle.crew.specs.declared.answers.OverCause.{OverCause}
use Rattle.run_laws.specs.Answers.{IsFinishRefusal}
use Rattle.run_laws.specs.Events.{IsClaimed, IsFinished, marked}
use Rattle.run_laws.specs.Jobs.{Done, FinishFault, Job}
use Rattle.run_laws.specs.Moves.{GivingUpMoves, Moved, MovesFollow, RefusalsMove}
use Rattle.run_laws.specs.Progress.{Progress}
use Rattle.worker_gate.specs.Fits.{drained_count}

pub some_mark : (over : Option OverCause) (cause : OverCause) → option_or over (Some cause) ≢ None
some_mark None cause same = cc
some_mark (Some one) cause same = cc

module _ {V : Type 0} {app : Application V} where
  pub refused_moves : RefusalsMove app → GivingUpMoves app → MovesFollow app → (old mid now : Progress V) (done : Done V) (fault : FinishFault V) (job : Job V) (jobs others : List (Job V))
      → IsPerformed app jobs done job others → IsFinishRefusal app old done mid fault → now ≡ marked app mid OverCause.NoRoom → Moved app old jobs now jobs []
  refused_moves refusals gives_up follow old mid now done fault job jobs others performed refused same =
      subst (λ (come : Progress V). Moved app old jobs come jobs []) (sym same)
      (follow old mid (marked app mid OverCause.NoRoom) jobs jobs jobs [] [] (refusals old mid done fault job jobs others performed refused) (gives_up mid jobs))

  -- an end is logged, and counted, so that nothing more is drained
  pub ended_drains_none : JoinsWithOne → JoinsAddLengths → (old now : Progress V) (done : Done V) → IsFinished app old done now → drained_count now ≡ drained_count old
  ended_drains_none one add old now done finished =
      let entry : List Entry = (done.task.key, done.effect.text) ∷ [] in
      let ended = ap (λ (p : Progress V). p.ended) finished.after in
      let log = ap (λ (p : Progress V). length p.log) finished.after in
      let joined = ap length (one done.task.key done.effect.text old.log).0 in
      let longer = add old.log entry in
      omega (arith, ended, log, joined, longer)

  pub claimed_drains_none : (old now : Progress V) (pick : ℕ) (job : Job V) → IsClaimed app old pick now job → drained_count now ≡ drained_count old
  claimed_drains_none old now pick job claimed = ap (λ (p : Progress V). drained_count p) claimed.after

module _ {V : Type 0} (app : Application V) where
  pub refused_drains_none : (old mid : Progress V) (done : Done V) (fault : FinishFault V) → IsFinishRefusal app old done mid fault → drained_count mid ≡ drained_count old
  refused_drains_none old mid done (refusal.Budget back created limit) refused = ap (λ (p : Progress V). drained_count p) refused.4
  refused_drains_none old mid done (refusal.NoRoom back) refused = ap (λ (p : Progress V). drained_count p) refused.2
