-- How the jobs of a round are dealt out among workers, and what these make of them.
use Rattle.std.specs.Prelude.{◌≡◌, ◌+◌, ◌%◌, ◌==◌, ◌++◌, if◌then◌else◌, ℕ, true, List, [], ◌∷◌, length, slice_get, Option, Some, None, IfSome, IsPermutation}
use Rattle.std.specs.List.{All, AllByRecursion, AllZip, flat_map}
use Rattle.std.specs.Option.{option_map}
use Rattle.kdg_graph.specs.Nodes.{tasks_of}
use Rattle.app_laws.specs.Applications.{Application}
use Rattle.crew.specs.declared.answers.OverCause.{OverCause}
use Rattle.crew.specs.Jobs.{MayRun}
use Rattle.run_laws.specs.Events.{clear_nodes}
use Rattle.run_laws.specs.Jobs.{Done, Job}
use Rattle.run_laws.specs.Progress.{Progress}
use Rattle.source_pool.specs.declared.hands.Hand.{Hand}
use Rattle.source_pool.specs.declared.shares.Share.{Share}
use Rattle.source_pool.specs.Course.{AreDrawn, AreToEnd, IsJobDone, RunPoint, job_tasks}
use Rattle.source_pool.specs.Round.{IsEndFault}

-- of items numbered from a first number on, those whose number leaves the worker's when it is divided by the count of workers
abbrev pub share : {X : Type 0} → ℕ → ℕ → ℕ → List X → List X
share workers worker number [] = []
share workers worker number (x ∷ xs) = if number % workers == worker then x ∷ share workers worker (number + 1) xs else share workers worker (number + 1) xs

module _ {V : Type 0} where
  -- the jobs of all hands
  abbrev pub dealt_jobs : List (Hand (Job V) (Done V)) → List (Job V)
  dealt_jobs hands = flat_map (λ hand. hand.jobs.items) hands

  -- each worker has a hand without jobs
  pub record AreEmptyHands (workers : ℕ) (hands : List (Hand (Job V) (Done V))) : Type 0 where
    pub count : length hands ≡ workers
    pub empty : All (λ hand. hand.jobs.items ≡ []) hands

  -- each worker has a hand with its share of the jobs, in the order of the workers' numbers, and all jobs are in hands
  pub record AreDealt (workers : ℕ) (jobs : List (Job V)) (hands : List (Hand (Job V) (Done V))) : Type 0 where
    pub count : length hands ≡ workers
    pub shares : (number : ℕ) (hand : Hand (Job V) (Done V)) → slice_get hands number ≡ Some hand → hand.jobs.items ≡ share workers number 0 jobs
    pub all : IsPermutation jobs (dealt_jobs hands)

  module _ (app : Application V) where
    -- each job of the hand may run
    abbrev pub MayPlay : Hand (Job V) (Done V) → Type 0
    MayPlay hand = AllByRecursion (MayRun app) hand.jobs.items

    -- where the hand is done, each of its jobs is performed, in order
    abbrev pub IsPlayed : Hand (Job V) (Done V) → Hand (Job V) (Done V) → Type 0
    IsPlayed old now = now.is_done ≡ true → AllZip (IsJobDone app) old.jobs.items now.dones.items

    -- these are the jobs that are performed, in order
    abbrev pub AreDone : List (Done V) → List (Job V) → Type 0
    AreDone dones jobs = AllZip (IsJobDone app) jobs dones

    -- these are the jobs of the hand, if it is done
    abbrev pub IsHandOf : Hand (Job V) (Done V) → List (Job V) → Type 0
    IsHandOf hand jobs = hand.is_done ≡ true → AreDone hand.dones.items jobs

    -- each job is performed, in some order
    pub record AreDoneInSomeTurn (jobs : List (Job V)) (dones : List (Done V)) : Type 0 where
      pub turn : List (Job V)
      pub same : IsPermutation jobs turn
      pub done : AllZip (IsJobDone app) turn dones

-- what was done in all hands, hand by hand, where each is done
abbrev pub gathered : {J D : Type 0} → List (Hand J D) → Option (List D)
gathered [] = Some []
gathered (hand ∷ hands) = if hand.is_done then option_map (λ rest. hand.dones.items ++ rest) (gathered hands) else None

-- ---- jobs in hand, while others are drawn and the first ones end

module _ {V : Type 0} (app : Application V) where
  -- wherever the run began, and whatever was drawn before, such jobs are drawn now too: those of the first clear nodes
  abbrev pub HasDrawn : (List (Job V) → Type 0) → Progress V → Progress V → Type 0
  HasDrawn AreSuch old now = (from : RunPoint V) (before : List (Job V)) → AreDrawn app from old before → (jobs : List (Job V)) × AreSuch jobs × AreDrawn app from now (before ++ jobs)
      × (tasks_of (clear_nodes app old.nodes) ≡ job_tasks jobs ++ tasks_of (clear_nodes app now.nodes))

  -- such jobs are the next to end
  pub record MayEnd (AreSuch : List (Job V) → Type 0) (now : Progress V) : Type 0 where
    pub to : RunPoint V
    pub jobs : List (Job V)
    pub others : List (Job V)
    pub such : AreSuch jobs
    pub ending : AreToEnd app to now (jobs ++ others)

  -- whatever such jobs were the next to end, and whatever others after them, these others are left
  abbrev pub HaveEnded : (List (Job V) → Type 0) → Progress V → Progress V → Type 0
  HaveEnded AreSuch old now = (to : RunPoint V) (jobs others : List (Job V)) → AreSuch jobs → AreToEnd app to old (jobs ++ others) → AreToEnd app to now others × (now.ended ≡ old.ended + length jobs)

  -- whatever such jobs were the next to end, and whatever others after them, the run is at fault, with all of them
  abbrev pub EndAtFault : (List (Job V) → Type 0) → Progress V → OverCause → Type 0
  EndAtFault AreSuch old why = (to : RunPoint V) (jobs others : List (Job V)) → AreSuch jobs → AreToEnd app to old (jobs ++ others) → IsEndFault app to (old.ended + length (jobs ++ others)) why

-- ---- jobs that kept workers are given

module _ {A V H : Type 0} (meaning : A → Application V) (app : A) where
  -- the desk was told of this application, and what it was given may be performed
  pub record IsTold (share : Share A V H) : Type 0 where
    pub partner : IfSome share.partner (λ told. told.app.value ≡ app)
    pub errand : IfSome share.errand (λ errand. (errand.key.app.value ≡ app) × MayPlay (meaning app) errand.given.hand)

  -- these are the jobs of the share, which a worker has or which came back
  pub record IsShareOf (share : Share A V H) (jobs : List (Job V)) : Type 0 where
    pub away : IfSome share.errand (λ errand. errand.given.hand.jobs.items ≡ jobs)
    pub back : share.errand ≡ None → IsHandOf (meaning app) share.hand jobs

  -- these are the jobs of all shares, share by share
  abbrev pub AreOfShares : List (Share A V H) → List (Job V) → Type 0
  AreOfShares [] jobs = jobs ≡ []
  AreOfShares (share ∷ shares) jobs = (own : List (Job V)) × (more : List (Job V)) × (jobs ≡ own ++ more) × IsShareOf share own × AreOfShares shares more

  -- these are the jobs of all shares, and after them those of the caller's hand
  pub record AreShared (shares : List (Share A V H)) (hand : Hand (Job V) (Done V)) (jobs : List (Job V)) : Type 0 where
    pub given : List (Job V)
    pub own : List (Job V)
    pub are : jobs ≡ given ++ own
    pub of_shares : AreOfShares shares given
    pub of_hand : IsHandOf (meaning app) hand own
