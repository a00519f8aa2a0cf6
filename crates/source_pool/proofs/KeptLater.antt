-- What comes before all pending tasks comes before those that are pending after rounds, and rounds add up.
use Rattle.std.proofs.Common.{◌≡◌, ℕ, zero, suc, ◌+◌, ◌≤◌, not, cond, Bool, true, false, List, [], ◌∷◌, refl, sym, ap, subst, ◌∙◌, arith}
use Rattle.std.specs.List.{AllByRecursion, filter}
use Rattle.std.specs.declared.cmp.Ordering.TheVariants.{Less}
use Rattle.plain_laws.specs.Members.{all_at, all_from}
use Rattle.plain_laws.specs.Lists.{All-filter}
use Rattle.task_order.specs.declared.start.Start.{Start}
use Rattle.task_order.specs.declared.task.Task.{Task}
use Rattle.task_order.specs.Key.{child_key, key_cmp}
use Rattle.task_order.specs.TaskList.{has_key, without}
use Rattle.task_order.specs.TaskListLaws.{All-put_all}
use Rattle.output_log.specs.Entries.{Entry, entries_before, is_written, with_texts}
use Rattle.output_log.specs.EntryLaws.{all_before}
use Rattle.app_laws.specs.Applications.{Application, IsFitTask}
use Rattle.app_laws.specs.Execution.{children_from}
use Rattle.commuting.specs.Clear.{IsReady}
use Rattle.commuting.specs.Commuting.{AreClear}
use Rattle.commuting.specs.Rounds.{after_round, clear_tasks}
use Rattle.commuting.specs.Standing.{ComeBefore}
use Rattle.commuting.specs.States.{State, after_task, after_tasks}
use Rattle.source_pool.specs.Basis.{Basis}
use Rattle.source_pool.specs.Course.{LeadsByRounds}
use Rattle.source_pool.specs.Kept.{acted_in, first_pending}

-- entries without text have none in any part of them
pub silent_part : (test : Entry → Bool) (entries : List Entry) → with_texts entries ≡ [] → with_texts (filter test entries) ≡ []
silent_part test [] none = refl
silent_part test (entry ∷ entries) none = by_case (is_written entry.1) refl (silent_part test entries)
  where
    by_case : (written : Bool) → is_written entry.1 ≡ written → (with_texts entries ≡ [] → with_texts (filter test entries) ≡ []) → with_texts (filter test (entry ∷ entries)) ≡ []
    by_case true is rest = absurd (some (sym (ap (λ b. cond b (entry ∷ with_texts entries) (with_texts entries)) is) ∙ none))
      where
        some : entry ∷ with_texts entries ≡ [] → ⊥
        some same = cc
    by_case false is rest =
        let passed = filter test entries in
        let none_passed = rest (sym (ap (λ b. cond b (entry ∷ with_texts entries) (with_texts entries)) is) ∙ none) in
        elim (test entry) as (λ b. with_texts (cond b (entry ∷ passed) passed) ≡ []) [
          | true ↦ ap (λ b. cond b (entry ∷ with_texts passed) (with_texts passed)) is ∙ none_passed
          | false ↦ none_passed
        ]

module _ {V : Type 0} (app : Application V) where
  pub leads_on_to : (rounds more : ℕ) (state middle now : State V) → LeadsByRounds app rounds state middle → LeadsByRounds app more middle now → LeadsByRounds app (rounds + more) state now
  leads_on_to zero more state middle now leads others =
      let all : more ≡ 0 + more = omega arith in
      subst (λ n. LeadsByRounds app n state now) all (subst (λ (s : State V). LeadsByRounds app more s now) leads others)
  leads_on_to (suc rounds) more state middle now leads others =
      let all : suc (rounds + more) ≡ suc rounds + more = omega arith in
      subst (λ n. LeadsByRounds app n state now) all (leads.0, leads_on_to rounds more (after_round app state) middle now leads.1 others)

  pub acted_add : (rounds more : ℕ) (state middle : State V) → LeadsByRounds app rounds state middle → acted_in app (rounds + more) state ≡ acted_in app rounds state + acted_in app more middle
  acted_add zero more state middle leads =
      let all : more ≡ 0 + more = omega arith in
      subst (λ n. acted_in app n state ≡ 0 + acted_in app more middle) all (omega (arith, ap (acted_in app more) leads))
  acted_add (suc rounds) more state middle leads =
      let all : suc (rounds + more) ≡ suc rounds + more = omega arith in
      subst (λ n. acted_in app n state ≡ acted_in app (suc rounds) state + acted_in app more middle) all
      (omega (arith, acted_add rounds more (after_round app state) middle leads.1))

module _ {V : Type 0} {app : Application V} (basis : Basis app) (entries : List Entry) where
  -- all entries are earlier than the task
  abbrev Follows : Task → Type 0
  Follows task = AllByRecursion (λ (entry : Entry). key_cmp entry.0 task.key ≡ Less) entries

  children_follow : (parent : Task) (number : ℕ) (children : List Start) → Follows parent → AllByRecursion (λ (child : Start). parent.key.prio ≤ child.prio) children
      → AllByRecursion Follows (children_from parent.key number children)
  children_follow parent number [] own later = tt
  children_follow parent number (child ∷ children) own later = (
    all_from (λ (entry : Entry). key_cmp entry.0 (child_key parent.key number child.prio) ≡ Less) entries (λ entry has.
        basis.transitive entry.0 parent.key (child_key parent.key number child.prio)
        (all_at (λ (entry : Entry). key_cmp entry.0 parent.key ≡ Less) entries entry own has)
        (basis.children_later parent.key number child.prio later.0)),
    children_follow parent (suc number) children own later.1,
  )

  tasks_follow : (tasks : List Task) (state : State V) → IsReady app state → AreClear app state tasks → AllByRecursion Follows state.pending → AllByRecursion Follows (after_tasks app.act tasks state).pending
  tasks_follow [] state ready clear all = all
  tasks_follow (task ∷ tasks) state ready clear all =
      let has = clear.clear.0.pending in
      let children = (app.act task state.cells).children in
      let stay = basis.in_turn state (task ∷ []) tasks ready clear in
      let later = basis.lawful.children_come_no_earlier task state.cells ready.cells (all_at (IsFitTask app) state.pending task ready.tasks has) in
      tasks_follow tasks (after_task app.act task state) stay.ready stay.clear
      (All-put_all Follows (children_from task.key 0 children) (without task.key state.pending)
      (children_follow task 0 children (all_at Follows state.pending task all has) later)
      (All-filter Follows (λ other. not (has_key task.key other)) state.pending all))

  pub rounds_follow : (rounds : ℕ) (state now : State V) → IsReady app state → ComeBefore entries state.pending → LeadsByRounds app rounds state now → ComeBefore entries now.pending
  rounds_follow zero state now ready all leads = subst (λ (s : State V). ComeBefore entries s.pending) (sym leads) all
  rounds_follow (suc rounds) state now ready all leads =
      rounds_follow rounds (after_round app state) now (basis.rounds_ready state ready)
      (tasks_follow (clear_tasks app state) state ready (basis.listed state ready).clear all) leads.1

  pub before_first : (pending : List Task) → ComeBefore entries pending → entries_before (first_pending pending) entries ≡ entries
  before_first [] all = basis.before_end entries
  before_first (task ∷ tasks) all = all_before task.key entries all.0
