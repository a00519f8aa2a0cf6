-- The steps of a round, from its beginning to the next one.
use Rattle.std.proofs.Common.{◌≡◌, ◌≢◌, inl, inr, ℕ, suc, ◌+◌, ◌<◌, ◌≤◌, List, [], ◌∷◌, length, refl, sym, ap, ◌∙◌, subst, arith}
use Rattle.task_order.specs.declared.task.Task.{Task}
use Rattle.app_laws.specs.Applications.{Application}
use Rattle.commuting.specs.Clear.{IsReady}
use Rattle.commuting.specs.Commuting.{AreClear}
use Rattle.commuting.specs.Rounds.{TakesRounds, after_round, clear_tasks}
use Rattle.commuting.specs.States.{State, after_tasks, state_of}
use Rattle.crew.specs.declared.answers.OverCause.{OverCause}
use Rattle.crew.specs.declared.answers.OverCause.TheVariants as cause
use Rattle.list_rounds.specs.declared.parts.RunParts.{RunParts}
use Rattle.list_rounds.specs.Acting.{HasActed, IsTooMany}
use Rattle.list_rounds.specs.Basis.{Basis}
use Rattle.list_rounds.specs.Course.{HasCome, IsActing, IsDrained, state_in}
use Rattle.list_rounds.specs.Rounds.{IsKept, IsRoundFault, PassesLimit, RoundsState}
use Rattle.list_rounds.proofs.Course.{acts_keep_course, drains_keep_course, same_state, state_after}

-- where a task makes more tasks than the limit, it is the first that does
pub passes_here : {A V : Type 0} (whole app : Application V) (run : RoundsState A V) (parts : RunParts V) (task : Task) (left tasks : List Task) (limit : ℕ) (fault : OverCause) → IsTooMany app parts task limit fault
    → ((created : ℕ) → PassesLimit app (state_in parts) parts.ended limit (task ∷ left) created → PassesLimit whole run.state run.ended run.limit tasks created) → IsRoundFault whole run tasks fault
passes_here whole app run parts task left tasks limit (cause.Budget created most) many passes = passes created (inl (many.0, many.2))
passes_here whole app run parts task left tasks limit cause.NoRoom many passes = tt

module _ {V : Type 0} {app : Application V} (basis : Basis app) where
  -- some task is clear, where any is pending
  some_clear : (cells : List V) (pending : List Task) → IsReady app (state_of cells pending) → pending ≢ [] → 0 < length (clear_tasks app (state_of cells pending))
  some_clear cells [] ready some = absurd (some refl)
  some_clear cells (task ∷ others) ready some =
      let state = state_of cells (task ∷ others) in
      let there = ((basis.listed state ready).all task (basis.earliest cells task others ready)).1 in
      omega (arith, there)

  pub round_has_tasks : (state : State V) (tasks : List Task) → IsReady app state → state.pending ≢ [] → tasks ≡ clear_tasks app state → 0 < length tasks
  round_has_tasks state tasks ready some are = let many = some_clear state.cells state.pending ready some in omega (arith, many, ap length are)

  pub kept : {A : Type 0} (it : A) (start : State V) (limit rounds : ℕ) (parts : RunParts V) → HasCome app start limit rounds parts
      → IsKept app {A = A} (record { app = it; start = start; limit = limit; rounds = rounds; state = state_in parts; ended = parts.ended })
  kept it start limit rounds parts come = record { ready = come.course.stands.ready; within = come.within; limited = come.limited; rounds = come.goes_on }

  module _ {start : State V} {limit : ℕ} where
    pub acting_begins : (rounds : ℕ) (parts : RunParts V) (tasks : List Task) → HasCome app start limit rounds parts → tasks ≡ clear_tasks app (state_in parts)
        → IsActing app start limit (after_round app (state_in parts)) parts tasks
    acting_begins rounds parts tasks come are = record {
      course = come.course;
      clear = subst (AreClear app (state_in parts)) (sym are) (basis.listed (state_in parts) come.course.stands.ready).clear;
      leads = ap (λ ts. after_tasks app.act ts (state_in parts)) are;
      within = come.within;
    }

    module _ {target : State V} {parts : RunParts V} where
      pub acting_goes_on : (task : Task) (left : List Task) (now : RunParts V) → IsActing app start limit target parts (task ∷ left) → HasActed app parts task now → now.ended + length now.pending ≤ limit
          → IsActing app start limit target now left
      acting_goes_on task left now acting acted within =
          let after = state_after basis acting.course task acting.clear.clear.0 now acted in
          record {
            course = acts_keep_course basis acting.course task acting.clear.clear.0 now acted;
            clear = subst (λ (s : State V). AreClear app s left) (sym after) (basis.in_turn (state_in parts) (task ∷ []) left acting.course.stands.ready acting.clear).clear;
            leads = ap (after_tasks app.act left) after ∙ acting.leads;
            within = within;
          }

      -- where a task makes no more than the limit, one of those behind it is the first
      pub passes_later : (task : Task) (left : List Task) (now : RunParts V) → IsActing app start limit target parts (task ∷ left) → HasActed app parts task now → now.ended + length now.pending ≤ limit
          → (created : ℕ) → PassesLimit app (state_in now) now.ended limit left created → PassesLimit app (state_in parts) parts.ended limit (task ∷ left) created
      passes_later task left now acting acted within created over =
          let after = state_after basis acting.course task acting.clear.clear.0 now acted in
          let many = ap (λ (s : State V). length s.pending) after in
          inr (
            omega (arith, within, acted.ended, many),
            subst (λ (s : State V). PassesLimit app s (parts.ended + 1) limit left created) after (subst (λ n. PassesLimit app (state_in now) n limit left created) acted.ended over),
          )

  -- where none is left, a drain leaves the target
  pub rested : {start : State V} {limit : ℕ} {target : State V} {parts : RunParts V} → IsActing app start limit target parts [] → (now : RunParts V) → IsDrained parts now → state_in now ≡ target
  rested acting now drain = same_state basis acting.course now drain ∙ acting.leads

  -- the round is done
  pub round_comes_to_rest : {start : State V} {limit rounds : ℕ} (old parts now : RunParts V) → HasCome app start limit rounds old → old.pending ≢ [] → IsActing app start limit (after_round app (state_in old)) parts []
      → old.ended < parts.ended → IsDrained parts now → HasCome app start limit (rounds + 1) now × (state_in now ≡ after_round app (state_in old))
  round_comes_to_rest {start} {limit} {rounds} old parts now come some acting more_ended drain =
      let is : state_in now ≡ after_round app (state_in old) = rested acting now drain in (
        record {
          course = drains_keep_course basis acting.course now drain;
          goes_on = λ more takes.
              let all : rounds + suc more ≡ (rounds + 1) + more = omega arith in
              subst (λ n. TakesRounds app n start) all (come.goes_on (suc more) (some, subst (TakesRounds app more) is takes));
          some_each = let each = come.some_each in omega (arith, each, more_ended, drain.ended);
          within = let bound = acting.within in omega (arith, bound, drain.ended, ap length drain.pending);
          limited = come.limited;
        },
        is,
      )
