-- What begins, a claim, a giving up and another order of the jobs leave where an execution has come.
use Rattle.std.proofs.Common.{◌≡◌, ◌⊎◌, inl, inr, ⊎_elim, ℕ, List, [], ◌∷◌, ◌++◌, Option, Some, None, refl, sym, ap, subst, ◌∙◌, arith}
use Rattle.std.specs.List.{AllByRecursion}
use Rattle.std.specs.Option.{option_or}
use Rattle.std.specs.declared.cmp.Ordering.TheVariants.{Less}
use Rattle.plain_laws.specs.Members.{all_from}
use Rattle.plain_laws.specs.Options.{none_is_not_some}
use Rattle.task_order.specs.declared.task.Task.{Task}
use Rattle.task_order.specs.Key.{key_cmp}
use Rattle.output_log.specs.Entries.{Entry}
use Rattle.kdg_graph.specs.Nodes.{tasks_of}
use Rattle.app_laws.specs.Applications.{Application}
use Rattle.commuting.specs.Standing.{ComeBefore, StandsFor}
use Rattle.commuting.specs.States.{state_of}
use Rattle.crew.specs.declared.answers.Claim.TheVariants as claim
use Rattle.crew.specs.declared.answers.OverCause.{OverCause}
use Rattle.crew.specs.declared.answers.OverCause.TheVariants as cause
use Rattle.run_laws.specs.Course.{ComesOf, HasCome, HasTrueMark}
use Rattle.run_laws.specs.CourseBasis.{CourseBasis}
use Rattle.run_laws.specs.CourseLaws.{AnyOrderKeepsCourse, BeginningsAreStarts, ClaimAnswersKeepCourse, ClaimsKeepCourse, GivingUpKeepsCourse, StartsHaveCome}
use Rattle.run_laws.specs.Events.{marked}
use Rattle.run_laws.specs.Jobs.{Job}
use Rattle.run_laws.specs.Progress.{Progress, whole_state}
use Rattle.run_laws.specs.Sound.{IsSound}
use Rattle.run_laws.proofs.AnyOrder.{sound_in_any_order}
use Rattle.run_laws.proofs.Beginnings.{beginnings_are_sound}
use Rattle.run_laws.proofs.Claims.{claims_keep_sound}
use Rattle.run_laws.proofs.Marks.{marks_and_drains_keep_sound}

-- a mark that stands beside a new one is the old one, or else the new one
pub either_mark : (old : Option OverCause) (new mark : OverCause) → option_or old (Some new) ≡ Some mark → (old ≡ Some mark) ⊎ (new ≡ mark)
either_mark None new mark is = inr (some_injective is)
  where
    some_injective : {x y : OverCause} → Some x ≡ Some y → x ≡ y
    some_injective same = cc
either_mark (Some standing) new mark is = inl is

no_room_is_no_budget : {created limit : ℕ} → cause.NoRoom ≡ cause.Budget created limit → ⊥
no_room_is_no_budget same = cc

-- each task comes of itself
of_themselves : (tasks : List Task) → AllByRecursion (λ (task : Task). ComesOf tasks task.key) tasks
of_themselves tasks = all_from (λ (task : Task). ComesOf tasks task.key) tasks (λ task has. (task, has, inl refl))

module _ {V : Type 0} (app : Application V) (start : Progress V) (cells : List V) where
  pub mark_kept : (old now : Progress V) → now.over ≡ old.over → HasTrueMark app start cells old → HasTrueMark app start cells now
  mark_kept old now over_is mark created limit is = mark created limit (sym over_is ∙ is)

  -- where log, tasks and counts are the same
  pub kept : (before entries : List Entry) (old now : Progress V) (jobs held : List (Job V)) (values : List V) → HasCome app start cells before entries old jobs values → IsSound app now held values
      → now.log ≡ old.log → now.ended ≡ old.ended → now.limit ≡ old.limit → tasks_of now.nodes ≡ tasks_of old.nodes → HasTrueMark app start cells now → HasCome app start cells before entries now held values
  kept before entries old now jobs held values come sound log_is ended_is limit_is tasks_are mark = record {
    sound = sound;
    stands = subst (λ tasks. StandsFor app (whole_state start cells) entries (state_of values tasks)) (sym tasks_are) come.stands;
    logged = come.logged ∙ ap (λ log. before ++ log) (sym log_is);
    earlier = subst (ComeBefore before) (sym tasks_are) come.earlier;
    ended = ended_is ∙ come.ended;
    limit = limit_is ∙ come.limit;
    true_mark = mark;
    entries_descend = come.entries_descend;
    tasks_descend = subst (AllByRecursion (λ (task : Task). ComesOf (tasks_of start.nodes) task.key)) (sym tasks_are) come.tasks_descend;
  }

  pub unchanged : (before entries : List Entry) (old now : Progress V) (jobs : List (Job V)) (values : List V) → now ≡ old
      → HasCome app start cells before entries old jobs values → HasCome app start cells before entries now jobs values
  unchanged before entries old now jobs values same come = subst (λ (progress : Progress V). HasCome app start cells before entries progress jobs values) (sym same) come

module _ {V : Type 0} {app : Application V} (basis : CourseBasis app) where
  pub starts_have_come : StartsHaveCome app
  starts_have_come start cells sound over = record {
    sound = sound;
    stands = basis.starts (whole_state start cells) sound.ready;
    logged = refl;
    earlier = all_from (λ (task : Task). AllByRecursion (λ (entry : Entry). key_cmp entry.0 task.key ≡ Less) []) (tasks_of start.nodes) (λ _ _. tt);
    ended = omega arith;
    limit = refl;
    true_mark = λ created limit is. absurd (none_is_not_some _ (sym over ∙ is));
    entries_descend = tt;
    tasks_descend = of_themselves (tasks_of start.nodes);
  }

  pub beginnings_are_starts : BeginningsAreStarts app
  beginnings_are_starts cells first budget start fit_cells fit few begun =
      (starts_have_come start cells (beginnings_are_sound basis.begun cells first budget start fit_cells fit few begun) begun.not_over, ap (state_of cells) begun.tasks_are)

  pub any_order_keeps_course : AnyOrderKeepsCourse app
  any_order_keeps_course start cells before entries now jobs others values come same =
      kept app start cells before entries now now jobs others values come (sound_in_any_order app basis.any_order now jobs others values same come.sound) refl refl refl refl come.true_mark

  pub claims_keep_course : ClaimsKeepCourse app
  claims_keep_course start cells before entries old now pick job jobs values come claimed =
      kept app start cells before entries old now jobs (job ∷ jobs) values come
      (claims_keep_sound basis.begun old now pick job jobs values come.sound claimed)
      (ap (λ (progress : Progress V). progress.log) claimed.after)
      (ap (λ (progress : Progress V). progress.ended) claimed.after)
      (ap (λ (progress : Progress V). progress.limit) claimed.after)
      (ap (λ (progress : Progress V). tasks_of progress.nodes) claimed.after ∙ basis.begun.lower.starts_keep_tasks claimed.node.id old.nodes)
      (mark_kept app start cells old now (ap (λ (progress : Progress V). progress.over) claimed.after) come.true_mark)

  pub claim_answers_keep_course : ClaimAnswersKeepCourse app
  claim_answers_keep_course start cells before entries old now pick (claim.Over cause) jobs values come answered = unchanged app start cells before entries old now jobs values answered.1 come
  claim_answers_keep_course start cells before entries old now pick claim.Ended jobs values come answered = unchanged app start cells before entries old now jobs values answered.2 come
  claim_answers_keep_course start cells before entries old now pick claim.NotYet jobs values come answered = unchanged app start cells before entries old now jobs values answered.3 come
  claim_answers_keep_course start cells before entries old now pick (claim.Job job) jobs values come answered = claims_keep_course start cells before entries old now pick job jobs values come answered.1

  pub giving_up_keeps_course : GivingUpKeepsCourse app
  giving_up_keeps_course start cells before entries now jobs values come =
      kept app start cells before entries now (marked app now cause.NoRoom) jobs jobs values come
      ((marks_and_drains_keep_sound basis.begun).marked_one now cause.NoRoom jobs values come.sound) refl refl refl refl
      (λ created limit is. ⊎_elim (come.true_mark created limit) (λ new. absurd (no_room_is_no_budget new)) (either_mark now.over cause.NoRoom (cause.Budget created limit) is))
