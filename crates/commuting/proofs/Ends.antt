-- What runs come to: their logs, and two ends beside one another.
use Rattle.std.proofs.Common.{◌≡◌, ℕ, suc, Bool, true, false, not, cond, List, [], ◌∷◌, ◌++◌, Option, Some, None, refl, sym, ap, subst, ◌∙◌}
use Rattle.std.specs.Prelude.{IfSome, ◌||◌}
use Rattle.std.specs.List.{AllByRecursion, list_any}
use Rattle.std.specs.Option.{option_map}
use Rattle.std.specs.declared.cmp.Ordering.TheVariants.{Less}
use Rattle.std.specs.Ordering.{is_lt}
use Rattle.task_order.specs.declared.key.Key.{Key}
use Rattle.task_order.specs.declared.task.Task.{Task}
use Rattle.task_order.specs.Key.{Bound, at_key, is_before, key_cmp}
use Rattle.task_order.specs.TaskList.{put_in}
use Rattle.task_order.specs.TaskListLaws.{All-put_all}
use Rattle.task_order.specs.KeyLaws.{key_cmp-turned_back}
use Rattle.output_log.specs.Entries.{Entry, entries_before, entries_from, with_entry}
use Rattle.output_log.specs.EntryLaws.{first_put}
use Rattle.app_laws.specs.Applications.{Application}
use Rattle.app_laws.specs.Execution.{Execution}
use Rattle.commuting.specs.States.{State, state_of, run_from, entry_of}
use Rattle.commuting.specs.Commuting.{BothEnd, IsSameButLogsMore}
use Rattle.commuting.specs.Basis.{Basis}
use Rattle.commuting.proofs.Logs.{IsLogOf, later_handed, logs_of}
use Rattle.commuting.proofs.Runs.{none_before, with_front, turn, run_task}
use Rattle.commuting.proofs.Turns.{IsBeside, children_of, children_later, ready_turn}

-- ---- bounds

pub none_before_first : (bound : Bound) (first : Task) (tasks : List Task) → is_before first.key bound ≡ true → none_before bound (first ∷ tasks) ≡ false
none_before_first bound first tasks is = rw is refl

pub none_before_put_in : (bound : Bound) (task : Task) (tasks : List Task) → is_before task.key bound ≡ true → none_before bound (put_in task tasks) ≡ false
none_before_put_in bound task tasks is = ap not (any tasks)
  where
    any : (tasks : List Task) → list_any (λ task. is_before task.key bound) (put_in task tasks) ≡ true
    any [] = rw is refl
    any (other ∷ tasks) = elim (is_lt (key_cmp other.key task.key)) as (λ past. list_any (λ task. is_before task.key bound) (cond past (other ∷ put_in task tasks) (task ∷ other ∷ tasks)) ≡ true) [
      | true ↦ either (is_before other.key bound) (any tasks)
      | false ↦ rw is refl
    ]
      where
        either : (first : Bool) {rest : Bool} → rest ≡ true → (first || rest) ≡ true
        either true is = refl
        either false is = is

pub none_before_all : (bound : Bound) (tasks : List Task) → AllByRecursion (λ task. is_before task.key bound ≡ false) tasks → none_before bound tasks ≡ true
none_before_all bound [] all = refl
none_before_all bound (task ∷ tasks) all = rw (all.0) (none_before_all bound tasks all.1)

-- ---- one more entry

pub entry_behind : (key : Key) (text : List ℕ) (first : Entry) (log : List Entry) → key_cmp first.0 key ≡ Less → with_entry key text (first ∷ log) ≡ first ∷ with_entry key text log
entry_behind key text first log earlier =
    ap (λ o. cond (is_lt o) (first ∷ entries_before (at_key key) log) (entries_before (at_key key) log) ++ (key, text) ∷ cond (not (is_lt o)) (first ∷ entries_from (at_key key) log) (entries_from (at_key key) log)) earlier

none_of_later : (key : Key) (log : List Entry) → AllByRecursion (λ entry. key_cmp key entry.0 ≡ Less) log → entries_before (at_key key) log ≡ []
none_of_later key [] later = refl
none_of_later key (entry ∷ log) later =
    ap (λ o. cond (is_lt o) (entry ∷ entries_before (at_key key) log) (entries_before (at_key key) log)) (key_cmp-turned_back key entry.0 later.0) ∙ none_of_later key log later.1

all_of_later : (key : Key) (log : List Entry) → AllByRecursion (λ entry. key_cmp key entry.0 ≡ Less) log → entries_from (at_key key) log ≡ log
all_of_later key [] later = refl
all_of_later key (entry ∷ log) later =
    ap (λ o. cond (not (is_lt o)) (entry ∷ entries_from (at_key key) log) (entries_from (at_key key) log)) (key_cmp-turned_back key entry.0 later.0) ∙ ap (λ l. entry ∷ l) (all_of_later key log later.1)

-- ---- two ends

pub both_mapped : {V : Type 0} (R S : Execution V → Execution V → Type 0) (f g : Execution V → Execution V) → ((e other : Execution V) → R e other → S (f e) (g other))
    → (first second : Option (Execution V)) → BothEnd R first second → BothEnd S (option_map f first) (option_map g second)
both_mapped R S f g each None None both = tt
both_mapped R S f g each None (Some other) both = absurd both
both_mapped R S f g each (Some e) None both = absurd both
both_mapped R S f g each (Some e) (Some other) both = each e other both

module _ {V : Type 0} {app : Application V} (basis : Basis app) where
  more_by_first : (cells : List V) (task : Task) (run : Option (Execution V)) → IfSome run (IsLogOf (λ key. key_cmp task.key key ≡ Less))
      → BothEnd (IsSameButLogsMore (entry_of app.act cells task ∷ [])) (option_map (with_front (entry_of app.act cells task ∷ [])) run) run
  more_by_first cells task None logs = tt
  more_by_first cells task (Some e) logs = record {
    cells-are = refl;
    pending-are = refl;
    log-is = sym (first_put task.key (app.act task cells).text e.log logs.all);
  }

  -- the first pending task acts as it would have
  pub first_acts : (limit : ℕ) (bound : Bound) (cells : List V) (task : Task) (others : List Task) → is_before task.key bound ≡ true
      → IsBeside app task (state_of cells others) → AllByRecursion (λ other. key_cmp task.key other.key ≡ Less) others
      → BothEnd (IsSameButLogsMore (entry_of app.act cells task ∷ []))
      (run_from app.act (suc limit) bound (state_of cells (task ∷ others)))
      (run_from app.act limit bound (turn app.act task (state_of cells others)))
  first_acts limit bound cells task others is beside later =
      let rest : State V = state_of cells others in
      let next = turn app.act task rest in
      subst (λ run. BothEnd (IsSameButLogsMore (entry_of app.act cells task ∷ [])) run (run_from app.act limit bound next))
      (sym (run_task basis.runs limit bound cells task others (none_before_first bound task others is)))
      (more_by_first cells task (run_from app.act limit bound next)
      (logs_of basis (λ key. key_cmp task.key key ≡ Less) (later_handed basis task.key) limit bound next.cells next.pending (ready_turn basis task rest beside)
      (All-put_all (λ child. key_cmp task.key child.key ≡ Less) (children_of app cells task) others (children_later basis task cells beside.ready.cells beside.fit) later)))
