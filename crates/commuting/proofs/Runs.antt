-- Runs, by their first step.
use Rattle.std.proofs.Common.{◌≡◌, ℕ, zero, suc, Bool, true, false, not, List, [], ◌∷◌, ◌++◌, Some, None, refl, sym, ap, ◌∙◌, append_assoc}
use Rattle.std.specs.List.{list_any}
use Rattle.std.specs.Option.{option_map}
use Rattle.task_order.specs.declared.key.Key.{Key}
use Rattle.task_order.specs.declared.task.Task.{Task}
use Rattle.task_order.specs.Key.{Bound, is_before}
use Rattle.task_order.specs.TaskList.{put_all}
use Rattle.app_laws.specs.Execution.{Operator, Execution, children_from, acts, step, is_clear_before, run_until}
use Rattle.commuting.specs.Basis.{RunLaws}
use Rattle.commuting.specs.States.{State, state_of, execution_from, run_from, entry_of}

-- no task of the list is earlier than the bound
abbrev pub none_before : Bound → List Task → Bool
none_before bound tasks = not (list_any (λ task. is_before task.key bound) tasks)

-- the execution with these entries logged before all others
abbrev pub with_front : {V : Type 0} → List (Key × List ℕ) → Execution V → Execution V
with_front entries e = record { cells = e.cells; pending = e.pending; log = entries ++ e.log }

-- a task acts that stands beside these pending ones
abbrev pub turn : {V : Type 0} → Operator V → Task → State V → State V
turn act task others = record {
  cells = (act task others.cells).cells;
  pending = put_all (children_from task.key 0 (act task others.cells).children) others.pending;
}

-- what was logged before stays in front
acts_with_front : {V : Type 0} (act : Operator V) (entries : List (Key × List ℕ)) (e : Execution V) (pending : List Task) → acts act (with_front entries e) pending ≡ with_front entries (acts act e pending)
acts_with_front act entries e [] = refl
acts_with_front act entries e (task ∷ others) =
    ap (λ log. record { cells = (act task e.cells).cells; pending = put_all (children_from task.key 0 (act task e.cells).children) others; log = log })
    (append_assoc entries e.log ((task.key, (act task e.cells).text) ∷ []))

module _ {V : Type 0} {act : Operator V} (runs : RunLaws act) where
  -- a run that has nothing to do is at its end
  pub run_clear : (limit : ℕ) (bound : Bound) (e : Execution V) → is_clear_before bound e ≡ true → run_until act limit bound e ≡ Some e
  run_clear limit bound e clear = (runs.begins e bound).0 clear limit

  -- where a run may take no step, it is given up
  pub run_refused : (bound : Bound) (e : Execution V) → is_clear_before bound e ≡ false → run_until act zero bound e ≡ None
  run_refused bound e busy = ((runs.begins e bound).1 busy).0

  run_first : (limit : ℕ) (bound : Bound) (e : Execution V) → is_clear_before bound e ≡ false → run_until act (suc limit) bound e ≡ run_until act limit bound (step act e)
  run_first limit bound e busy = ((runs.begins e bound).1 busy).1 limit

  abbrev KeepsFront : List (Key × List ℕ) → ℕ → Bound → Execution V → Type 0
  KeepsFront entries limit bound e = run_until act limit bound (with_front entries e) ≡ option_map (with_front entries) (run_until act limit bound e)

  front_clear : (entries : List (Key × List ℕ)) (limit : ℕ) (bound : Bound) (e : Execution V) → is_clear_before bound e ≡ true → KeepsFront entries limit bound e
  front_clear entries limit bound e clear = run_clear limit bound (with_front entries e) clear ∙ ap (option_map (with_front entries)) (sym (run_clear limit bound e clear))

  run_with_front : (entries : List (Key × List ℕ)) (limit : ℕ) (bound : Bound) (e : Execution V) → KeepsFront entries limit bound e
  run_with_front entries zero bound e = by_case (is_clear_before bound e) refl
    where
      by_case : (clear : Bool) → is_clear_before bound e ≡ clear → KeepsFront entries zero bound e
      by_case true clear = front_clear entries zero bound e clear
      by_case false busy = run_refused bound (with_front entries e) busy ∙ ap (option_map (with_front entries)) (sym (run_refused bound e busy))
  run_with_front entries (suc limit) bound e = by_case (is_clear_before bound e) refl (run_with_front entries limit bound (step act e))
    where
      by_case : (clear : Bool) → is_clear_before bound e ≡ clear → KeepsFront entries limit bound (step act e) → KeepsFront entries (suc limit) bound e
      by_case true clear rest = front_clear entries (suc limit) bound e clear
      by_case false busy rest =
          run_first limit bound (with_front entries e) busy
          ∙ ap (run_until act limit bound) (acts_with_front act entries e e.pending)
          ∙ rest
          ∙ ap (option_map (with_front entries)) (sym (run_first limit bound e busy))

  -- the first pending task acts, and its entry is logged in front
  pub run_task : (limit : ℕ) (bound : Bound) (cells : List V) (task : Task) (others : List Task) → none_before bound (task ∷ others) ≡ false
      → run_from act (suc limit) bound (state_of cells (task ∷ others)) ≡ option_map (with_front (entry_of act cells task ∷ [])) (run_from act limit bound (turn act task (state_of cells others)))
  run_task limit bound cells task others busy =
      run_first limit bound (execution_from (state_of cells (task ∷ others))) busy
      ∙ run_with_front (entry_of act cells task ∷ []) limit bound (execution_from (turn act task (state_of cells others)))
