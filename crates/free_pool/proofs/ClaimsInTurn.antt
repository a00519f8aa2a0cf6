-- The claims of a worker, one after the other in a turn.
use Rattle.std.proofs.Common.{◌≡◌, ◌≢◌, ◌==◌, Bool, true, false, ℕ, suc, List, [], ◌∷◌, length, refl, sym, ap, subst, ◌∙◌, eqb-true, true≢false}
use Rattle.std.specs.List.{AllByRecursion}
use Rattle.plain_laws.specs.Lists.{empty_from_length}
use Rattle.app_laws.specs.Applications.{Application}
use Rattle.crew.specs.Jobs.{MayRun}
use Rattle.run_laws.specs.Jobs.{Job}
use Rattle.run_laws.specs.Moves.{Moved, MovesFollow, StaysAreMoves}
use Rattle.run_laws.specs.Progress.{Progress}
use Rattle.worker_gate.specs.Fits.{drained_count}
use Rattle.free_pool.specs.declared.turns.Next.{Next}
use Rattle.free_pool.specs.declared.turns.Next.TheVariants as next
use Rattle.free_pool.specs.Turns.{AreClaimed, AreToPerform}

no_cons : {X : Type 0} {x : X} {xs : List X} → [] ≡ x ∷ xs → ⊥
no_cons same = cc

-- by the test of a list's length
pub none_there : {X : Type 0} (xs : List X) (len : ℕ) (empty : Bool) → len ≡ length xs → empty ≡ (len == 0) → empty ≡ true → xs ≡ []
none_there xs len empty long is same = empty_from_length xs (sym long ∙ eqb-true len 0 (sym is ∙ same))

pub some_there : {X : Type 0} (xs : List X) (len : ℕ) (empty : Bool) → len ≡ length xs → empty ≡ (len == 0) → empty ≡ false → xs ≢ []
some_there xs len empty long is same none =
    let zero : len ≡ 0 = long ∙ ap length none in
    true≢false (sym (ap (λ (n : ℕ). n == 0) zero) ∙ sym is ∙ same)

module _ {V : Type 0} (app : Application V) where
  -- the jobs were claimed since the start, and nothing else was done
  pub record AreClaiming (start now : Progress V) (jobs : List (Job V)) : Type 0 where
    pub moved : Moved app start [] now jobs []
    pub drained : drained_count now ≡ drained_count start
    pub may_run : AllByRecursion (MayRun app) jobs

  pub none_claimed : StaysAreMoves app → (start : Progress V) (jobs : List (Job V)) → jobs ≡ [] → AreClaiming start start jobs
  none_claimed stays start jobs none =
      subst (AreClaiming start start) (sym none) (record { moved = stays start []; drained = refl; may_run = tt })

  all_run : (old now : List (Job V)) (after : Next) → AreClaimed app old after now → AllByRecursion (MayRun app) old → AllByRecursion (MayRun app) now
  all_run old now next.Perform claimed all = subst (AllByRecursion (MayRun app)) (sym claimed.2) (claimed.1, all)
  all_run old now next.Again none all = absurd none
  all_run old now next.Wait same all = subst (AllByRecursion (MayRun app)) (sym same) all
  all_run old now next.Stop same all = subst (AllByRecursion (MayRun app)) (sym same) all

  pub one_claimed : MovesFollow app → (start old now : Progress V) (jobs more : List (Job V)) (after : Next) → AreClaiming start old jobs → Moved app old jobs now more [] → AreClaimed app jobs after more
      → drained_count now ≡ drained_count old → AreClaiming start now more
  one_claimed follow start old now jobs more after claiming moved claimed drained = record {
    moved = follow start old now [] jobs more [] [] claiming.moved moved;
    drained = drained ∙ claiming.drained;
    may_run = all_run jobs more after claimed claiming.may_run;
  }

  -- a claim that gave a job left one more
  pub longer : (jobs more : List (Job V)) (after : Next) → AreClaimed app jobs after more → after ≡ next.Perform → length more ≡ suc (length jobs)
  longer jobs more after claimed is = ap length (subst (λ (one : Next). AreClaimed app jobs one more) is claimed).2

  -- where nothing is claimed after it, a claim gave no job
  pub none_to_perform : (jobs more : List (Job V)) (after : Next) → AreClaimed app jobs after more → more ≡ [] → AreToPerform more after
  none_to_perform jobs more next.Perform claimed none = absurd (no_cons (sym none ∙ claimed.2))
  none_to_perform jobs more next.Again claimed none = absurd claimed
  none_to_perform jobs more next.Wait claimed none = none
  none_to_perform jobs more next.Stop claimed none = none

module _ {A V : Type 0} (meaning : A → Application V) where
  -- the same where the application of the engine is known to be that of its start
  pub one_claimed_by : (own app : A) → own ≡ app → MovesFollow (meaning app) → (start old now : Progress V) (jobs more : List (Job V)) (after : Next) → AreClaiming (meaning app) start old jobs
      → Moved (meaning own) old jobs now more [] → AreClaimed (meaning own) jobs after more → drained_count now ≡ drained_count old → AreClaiming (meaning app) start now more
  one_claimed_by own app same follow start old now jobs more after claiming moved claimed drained =
      one_claimed (meaning app) follow start old now jobs more after claiming (subst (λ (a : A). Moved (meaning a) old jobs now more []) same moved)
      (subst (λ (a : A). AreClaimed (meaning a) jobs after more) same claimed) drained
