-- Performed jobs end, the first one first: what is left of them, whatever comes after them.
use Rattle.std.proofs.Common.{◌≡◌, ◌+◌, ◌++◌, ℕ, suc, List, [], ◌∷◌, length, refl, ap, arith}
use Rattle.std.proofs.lemmas.List.{length-append}
use Rattle.cell_store.specs.Values.{values_of}
use Rattle.crew.specs.Faults.{cause_of}
use Rattle.app_laws.specs.Applications.{Application}
use Rattle.run_laws.specs.Answers.{IsFinishRefusal}
use Rattle.run_laws.specs.Events.{IsFinished, IsOverLimit}
use Rattle.run_laws.specs.Jobs.{Done, FinishFault, Job}
use Rattle.run_laws.specs.Laws.{IsDone}
use Rattle.run_laws.specs.Progress.{Progress}
use Rattle.source_pool.specs.Course.{AreToEnd, IsJobDone, RunPoint}
use Rattle.source_pool.specs.KeptLaws.{EndsPassWithTheRound}
use Rattle.source_pool.specs.Laws.{EndsGoOn, FirstMayEnd, TooManyNeverEnd}
use Rattle.source_pool.specs.Performing.{AreDone, EndAtFault, HaveEnded}
use Rattle.source_pool.proofs.Faults.{ends_pass, passes_at, refused}

module _ {V : Type 0} (app : Application V) where
  -- of jobs with others after them these are left, and the others
  pub record AreLeft (dones : List (Done V)) (now : Progress V) (to : RunPoint V) (others : List (Job V)) (last : ℕ) : Type 0 where
    pub jobs : List (Job V)
    pub done : AreDone app dones jobs
    pub ending : AreToEnd app to now (jobs ++ others)
    pub ended : now.ended + length jobs ≡ last

  -- whatever jobs were performed in the beginning, and whatever others came after them
  abbrev pub HaveCome : List (Done V) → Progress V → List (Done V) → Progress V → Type 0
  HaveCome all old dones now = (to : RunPoint V) (jobs others : List (Job V)) → AreDone app all jobs → AreToEnd app to old (jobs ++ others) → AreLeft dones now to others (old.ended + length jobs)

  pub none_ended : (all : List (Done V)) (old : Progress V) → HaveCome all old all old
  none_ended all old to jobs others done ending = record { jobs = jobs; done = done; ending = ending; ended = refl }

  -- the first of them
  record First (done : Done V) (dones : List (Done V)) (now : Progress V) (to : RunPoint V) (others : List (Job V)) (last : ℕ) : Type 0 where
    job : Job V
    more : List (Job V)
    is : IsJobDone app job done
    each : AreDone app dones more
    ending : AreToEnd app to now (job ∷ (more ++ others))
    ended : now.ended + suc (length more) ≡ last

  first_of : (done : Done V) (dones : List (Done V)) (now : Progress V) (to : RunPoint V) (others : List (Job V)) (last : ℕ) → AreLeft (done ∷ dones) now to others last → First done dones now to others last
  first_of done dones now to others last left = by_jobs left.jobs left.done left.ending left.ended
    where
      by_jobs : (jobs : List (Job V)) → AreDone app (done ∷ dones) jobs → AreToEnd app to now (jobs ++ others) → now.ended + length jobs ≡ last → First done dones now to others last
      by_jobs [] each ending ended = absurd each
      by_jobs (job ∷ more) each ending ended = record { job = job; more = more; is = each.0; each = each.1; ending = ending; ended = ended }

  pub first_is_done : FirstMayEnd app → (done : Done V) (dones : List (Done V)) (now : Progress V) (to : RunPoint V) (others : List (Job V)) (last : ℕ) → AreLeft (done ∷ dones) now to others last → IsDone app now done
  first_is_done may done dones now to others last left =
      let first = first_of done dones now to others last left in
      may to.start now (values_of to.start.cells) to.state to.text first.job (first.more ++ others) done first.ending first.is

  pub one_ended : EndsGoOn app → (all : List (Done V)) (old : Progress V) (done : Done V) (dones : List (Done V)) (now next : Progress V) → HaveCome all old (done ∷ dones) now → ¬ IsOverLimit app now done
      → IsFinished app now done next → HaveCome all old dones next
  one_ended goes_on all old done dones now next come within finished to jobs others each ending =
      let first = first_of done dones now to others (old.ended + length jobs) (come to jobs others each ending) in
      record {
        jobs = first.more;
        done = first.each;
        ending = goes_on to.start now next (values_of to.start.cells) to.state to.text first.job (first.more ++ others) done first.ending first.is within finished;
        ended = omega (arith, ap (λ (p : Progress V). p.ended) finished.after, first.ended);
      }

  pub all_ended : (all : List (Done V)) (old now : Progress V) → HaveCome all old [] now → HaveEnded app (AreDone app all) old now
  all_ended all old now come to jobs others each ending =
      let left = come to jobs others each ending in
      by_jobs left.jobs left.done left.ending left.ended
    where
      by_jobs : (rest : List (Job V)) → AreDone app [] rest → AreToEnd app to now (rest ++ others) → now.ended + length rest ≡ old.ended + length jobs → AreToEnd app to now others × (now.ended ≡ old.ended + length jobs)
      by_jobs [] each ending ended = (ending, omega (arith, ended))
      by_jobs (job ∷ rest) each ending ended = absurd each

  pub all_at_fault : TooManyNeverEnd app → EndsPassWithTheRound app → (all : List (Done V)) (old : Progress V) (done : Done V) (dones : List (Done V)) (now next : Progress V) → HaveCome all old (done ∷ dones) now
      → (fault : FinishFault V) → IsFinishRefusal app now done next fault → EndAtFault app (AreDone app all) old (cause_of fault)
  all_at_fault never passes all old done dones now next come fault refusal to jobs others each ending =
      let first = first_of done dones now to others (old.ended + length jobs) (come to jobs others each ending) in
      let same : now.ended + length (first.job ∷ (first.more ++ others)) ≡ old.ended + length (jobs ++ others) =
      omega (arith, first.ended, length-append first.more others, length-append jobs others) in
      record {
        fault = refused app never to.start now next to.state to.text first.job (first.more ++ others) done first.ending first.is fault refusal;
        passes = passes_at to.start.limit (now.ended + length (first.job ∷ (first.more ++ others))) (old.ended + length (jobs ++ others)) to.state (cause_of fault) same
            (ends_pass app passes to.start now next to.state to.text first.job (first.more ++ others) done first.ending first.is fault refusal);
      }
