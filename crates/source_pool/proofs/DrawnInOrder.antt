-- Jobs drawn after others.
use Rattle.std.proofs.Common.{◌≡◌, ◌++◌, ℕ, suc, List, [], ◌∷◌, length, refl, sym, ◌∙◌, ap, subst, arith}
use Rattle.std.proofs.lemmas.List.{append-nil, append_assoc}
use Rattle.cell_store.specs.Values.{values_of}
use Rattle.task_order.specs.declared.task.Task.{Task}
use Rattle.kdg_graph.specs.Nodes.{tasks_of}
use Rattle.app_laws.specs.Applications.{Application}
use Rattle.run_laws.specs.Answers.{IsClaimAnswer}
use Rattle.run_laws.specs.Events.{IsClaimed, clear_nodes}
use Rattle.run_laws.specs.Jobs.{Claim, Job}
use Rattle.run_laws.specs.Progress.{Progress}
use Rattle.crew.specs.declared.answers.Claim.TheVariants as claim
use Rattle.source_pool.specs.Course.{AreDrawn, job_tasks}
use Rattle.source_pool.specs.Laws.{ClaimsGoInKeyOrder, ClaimsGoOn}
use Rattle.source_pool.specs.declared.shares.Share.{Share}
use Rattle.source_pool.specs.Performing.{AreOfShares, HasDrawn, IsShareOf}

joined_tasks : {V : Type 0} (own more : List (Job V)) (left : List Task) → job_tasks own ++ (job_tasks more ++ left) ≡ job_tasks (own ++ more) ++ left
joined_tasks [] more left = refl
joined_tasks (job ∷ own) more left = ap (λ tasks. job.task ∷ tasks) (joined_tasks own more left)

module _ {V : Type 0} (app : Application V) where
  pub none_drawn : (AreSuch : List (Job V) → Type 0) (now : Progress V) → AreSuch [] → HasDrawn app AreSuch now now
  none_drawn AreSuch now such from before drawing = ([], such, subst (AreDrawn app from now) (sym (append-nil before)) drawing, refl)

  pub then_drawn : (First Then Both : List (Job V) → Type 0) (old between now : Progress V) → ((own more : List (Job V)) → First own → Then more → Both (own ++ more))
      → HasDrawn app First old between → HasDrawn app Then between now → HasDrawn app Both old now
  then_drawn First Then Both old between now both first then from before drawing =
      let one = first from before drawing in
      let two = then from (before ++ one.0) one.2 in (
        one.0 ++ two.0,
        both one.0 two.0 one.1 two.1,
        subst (AreDrawn app from now) (append_assoc before one.0 two.0) two.2,
        one.3 ∙ ap (λ tasks. job_tasks one.0 ++ tasks) two.3 ∙ joined_tasks one.0 two.0 (tasks_of (clear_nodes app now.nodes)),
      )

  -- one more job is drawn
  pub one_more_drawn : (old now next : Progress V) (jobs : List (Job V)) (job : Job V) → ClaimsGoOn app → ClaimsGoInKeyOrder app
      → HasDrawn app (λ drawn. drawn ≡ jobs) old now → IsClaimed app now 0 next job → HasDrawn app (λ drawn. drawn ≡ jobs ++ job ∷ []) old next
  one_more_drawn old now next jobs job goes_on in_key_order drawn claimed =
      then_drawn (λ d. d ≡ jobs) (λ d. d ≡ job ∷ []) (λ d. d ≡ jobs ++ job ∷ []) old now next
      (λ own more is such. ap (λ l. l ++ more) is ∙ ap (λ l. jobs ++ l) such)
      drawn
      (λ from before drawing. (
        job ∷ [],
        refl,
        goes_on from.start now next (values_of from.start.cells) from.state from.text before 0 job drawing claimed,
        in_key_order from.start now next (values_of from.start.cells) from.state from.text before job drawing claimed,
      ))

-- a claim without a job changes nothing
pub no_job_changes_nothing : {V : Type 0} (app : Application V) (old now : Progress V) (pick : ℕ) (answer : Claim V) → IsClaimAnswer app old pick now answer
    → ((job : Job V) → answer ≡ claim.Job job → ⊥) → now ≡ old
no_job_changes_nothing app old now pick (claim.Over cause) is never = is.1
no_job_changes_nothing app old now pick claim.Ended is never = is.2
no_job_changes_nothing app old now pick claim.NotYet is never = is.3
no_job_changes_nothing app old now pick (claim.Job job) is never = absurd (never job refl)

some_length : (n : ℕ) → suc n ≡ 0 → ⊥
some_length n is = omega (arith, is)

module _ {A V H : Type 0} (meaning : A → Application V) where
  pub none_of_none : (app : A) (shares : List (Share A V H)) → length shares ≡ 0 → AreOfShares meaning app shares []
  none_of_none app [] is = refl
  none_of_none app (share ∷ shares) is = absurd (some_length (length shares) is)

  -- those of one more desk come first
  pub share_drawn : (app : A) (share : Share A V H) (shares : List (Share A V H)) (own : List (Job V)) (old between now : Progress V)
      → HasDrawn (meaning app) (λ drawn. drawn ≡ own) old between → IsShareOf meaning app share own
      → HasDrawn (meaning app) (AreOfShares meaning app shares) between now → HasDrawn (meaning app) (AreOfShares meaning app (share ∷ shares)) old now
  share_drawn app share shares own old between now first is_of then =
      then_drawn (meaning app) (λ d. d ≡ own) (AreOfShares meaning app shares) (AreOfShares meaning app (share ∷ shares)) old between now
      (λ one more is such. (own, more, ap (λ l. l ++ more) is, is_of, such))
      first then
