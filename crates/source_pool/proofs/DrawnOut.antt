-- What is left where a claim gives no job.
use Rattle.std.proofs.Common.{◌≡◌, ℕ, [], None, ap, refl, sym, ◌∙◌}
use Rattle.plain_laws.specs.Options.{none_is_not_some}
use Rattle.app_laws.specs.Applications.{Application}
use Rattle.run_laws.specs.Jobs.{Claim, Job}
use Rattle.crew.specs.declared.answers.Claim.TheVariants as claim
use Rattle.run_laws.specs.Answers.{IsClaimAnswer}
use Rattle.run_laws.specs.Events.{clear_nodes}
use Rattle.run_laws.specs.Progress.{Progress}

-- the execution is as it was, and no node of it is clear
pub record IsDrawnOut {V : Type 0} (app : Application V) (old now : Progress V) : Type 0 where
  pub same : now ≡ old
  pub none_clear : clear_nodes app old.nodes ≡ []

pub drawn_out : {V : Type 0} (app : Application V) (old now : Progress V) (pick : ℕ) (answer : Claim V) → IsClaimAnswer app old pick now answer
    → ((job : Job V) → answer ≡ claim.Job job → ⊥) → old.over ≡ None → IsDrawnOut app old now
drawn_out app old now pick (claim.Over cause) is never is_open = absurd (none_is_not_some cause (sym is_open ∙ is.0))
drawn_out app old now pick claim.Ended is never is_open = record { same = is.2; none_clear = ap (clear_nodes app) is.1 }
drawn_out app old now pick claim.NotYet is never is_open = record { same = is.3; none_clear = is.2 }
drawn_out app old now pick (claim.Job job) is never is_open = absurd (never job refl)
