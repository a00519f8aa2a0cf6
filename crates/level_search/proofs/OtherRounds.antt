-- What the first visits to vertices leave where each vertex has a level already.
use Rattle.std.specs.Prelude.{◌≡◌, ℕ, suc, List, [], ◌∷◌, ◌++◌, refl}
use Rattle.std.specs.List.{AllByRecursion}
use Rattle.std.proofs.Common.{ap, sym, ◌∙◌, inl, inr, append_assoc}
use Rattle.std.proofs.lemmas.Bool.{cases_Bool, cond-false, cond-true}
use Rattle.task_order.specs.declared.task.Task.{Task}
use Rattle.task_order.specs.TaskList.{put_all}
use Rattle.app_laws.specs.Execution.{children_from}
use Rattle.commuting.specs.States.{after_tasks, state_of}
use Rattle.mtx_reader.specs.declared.pattern.Pattern.{Pattern}
use Rattle.level_walk.specs.declared.level.Level.{Level}
use Rattle.level_search.specs.Basis.{Basis}
use Rattle.level_search.proofs.Acting.{AreVisitsAt, act}
use Rattle.level_search.proofs.FirstRound.{IsUnderWay, leaves, skips, taken_out}
use Rattle.level_search.proofs.Firsts.{firsts, is_seen, others}
use Rattle.level_search.proofs.Places.{IsSet, idle}

module _ (pattern : Pattern) (basis : Basis) (level : ℕ) (cells : List Level) where
  -- the first visits leave, and nothing else changes
  after_idle : (seen : List ℕ) (skipped tasks later : List Task) → IsUnderWay pattern level skipped tasks later → AllByRecursion (λ task. IsSet cells task.body.at) tasks
      → after_tasks (act pattern) (firsts seen tasks) (state_of cells (skipped ++ (tasks ++ later))) ≡ state_of cells (skipped ++ (others seen tasks ++ later))
  after_idle seen skipped [] later under_way set = refl
  after_idle seen skipped (task ∷ tasks) later under_way set = elim (cases_Bool (is_seen (suc task.body.at) seen)) [
    | inl was ↦
        let seen-next = suc task.body.at ∷ seen in
        let first-left : firsts seen (task ∷ tasks) ≡ firsts seen-next tasks = cond-true (is_seen (suc task.body.at) seen) (firsts seen-next tasks) (task ∷ firsts seen-next tasks) was in
        let others-left : task ∷ others seen-next tasks ≡ others seen (task ∷ tasks) = sym (cond-true (is_seen (suc task.body.at) seen) (task ∷ others seen-next tasks) (others seen-next tasks) was) in
        (λ i. after_tasks (act pattern) (first-left i) (state_of cells (sym (append_assoc skipped (task ∷ []) (tasks ++ later)) i)))
        ∙ after_idle seen-next (skipped ++ task ∷ []) tasks later (skips basis pattern level skipped task tasks later under_way) set.1
        ∙ ap (λ (ts : List Task). state_of cells ts) (append_assoc skipped (task ∷ []) (others seen-next tasks ++ later))
        ∙ ap (λ (ts : List Task). state_of cells (skipped ++ (ts ++ later))) others-left
    | inr not ↦
        let seen-next = suc task.body.at ∷ seen in
        let state = state_of cells (skipped ++ (task ∷ tasks ++ later)) in
        let first-acts : firsts seen (task ∷ tasks) ≡ task ∷ firsts seen-next tasks = cond-false (is_seen (suc task.body.at) seen) (firsts seen-next tasks) (task ∷ firsts seen-next tasks) not in
        let others-left : others seen-next tasks ≡ others seen (task ∷ tasks) = sym (cond-false (is_seen (suc task.body.at) seen) (task ∷ others seen-next tasks) (others seen-next tasks) not) in
        let outcome = idle pattern task cells under_way.visits.0.visit set.0 in
        let rest-way : IsUnderWay pattern level skipped tasks later = leaves basis pattern level skipped task tasks later under_way in
        ap (λ (ts : List Task). after_tasks (act pattern) ts state) first-acts
        ∙ (λ i. after_tasks (act pattern) (firsts seen-next tasks)
        (state_of (outcome i).cells (put_all (children_from task.key 0 (outcome i).children) (taken_out basis pattern level skipped task tasks later under_way i))))
        ∙ after_idle seen-next skipped tasks later rest-way set.1
        ∙ ap (λ (ts : List Task). state_of cells (skipped ++ (ts ++ later))) others-left
  ]

  -- what such a round leaves
  pub after_other_round : (tasks later : List Task) → AreVisitsAt pattern level tasks → AllByRecursion (λ task. task.key.prio ≡ suc level) later → AllByRecursion (λ task. IsSet cells task.body.at) tasks
      → after_tasks (act pattern) (firsts [] tasks) (state_of cells (tasks ++ later)) ≡ state_of cells (others [] tasks ++ later)
  after_other_round tasks later visits late set =
      after_idle [] [] tasks later (record { skipped_at = tt; visits = visits.each; late = late; ascending = visits.ascending }) set
