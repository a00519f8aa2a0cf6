-- What tasks that visit vertices at one level leave where they act in turn.
use Rattle.std.specs.Prelude.{◌≡◌, ℕ, suc, ◌<◌, ◌≤◌, List, [], ◌∷◌, ◌++◌, length, map, refl}
use Rattle.std.specs.Cmp.{nat_cmp_total, tied_itself}
use Rattle.std.specs.Cmp.Lexicographic.{slice_cmp}
use Rattle.std.specs.List.{AllByRecursion}
use Rattle.std.specs.Ordering.{nat_cmp, ordering_then}
use Rattle.std.specs.declared.cmp.Ordering.{Ordering}
use Rattle.std.specs.declared.cmp.Ordering.TheVariants.{Less, Equal, Greater}
use Rattle.std.proofs.Common.{arith, ap, sym, subst, ◌∙◌}
use Rattle.std.proofs.lemmas.Bool.Decides.{nat_tests}
use Rattle.std.proofs.lemmas.List.{append-nil, append_assoc}
use Rattle.plain_laws.specs.Lists.{All-push, All-weaker}
use Rattle.task_order.specs.declared.key.Key.{Key}
use Rattle.task_order.specs.declared.start.Start.{Start}
use Rattle.task_order.specs.declared.task.Task.{Task}
use Rattle.task_order.specs.Key.{child_key, key_cmp}
use Rattle.task_order.specs.TaskList.{IsAscending, put_all}
use Rattle.output_log.specs.Entries.{Entry}
use Rattle.app_laws.specs.Execution.{Operator, children_from}
use Rattle.mtx_reader.specs.declared.pattern.Pattern.{Pattern}
use Rattle.level_walk.specs.declared.level.Level.{Level}
use Rattle.level_walk.specs.Levels.{IsVisit, levelling}
use Rattle.level_walk.specs.Walks.{vertex_count}
use Rattle.level_search.specs.Basis.{Basis}

-- the vertices that tasks visit
abbrev pub vertices_of : List Task → List ℕ
vertices_of tasks = map (λ task. suc task.body.at) tasks

-- the task is earlier than whatever child at the priority a task with the key makes
abbrev pub IsBeforeChildren : Key → ℕ → Task → Type 0
IsBeforeChildren key prio task = (number : ℕ) → key_cmp task.key (child_key key number prio) ≡ Less

module _ (pattern : Pattern) where
  -- a visit at a level: its path has a number for each level up to it
  pub record IsVisitAt (level : ℕ) (task : Task) : Type 0 where
    pub visit : IsVisit (vertex_count pattern) task.key.prio task.body
    pub at_level : task.key.prio ≡ level
    pub deep : length task.key.path ≡ suc level

  pub record AreVisitsAt (level : ℕ) (tasks : List Task) : Type 0 where
    pub each : AllByRecursion (IsVisitAt level) tasks
    pub ascending : IsAscending tasks

  abbrev pub act : Operator Level
  act = (levelling pattern).act

  -- the cells, the children and the entries where the tasks act one after the other
  abbrev pub cells_after : List Task → List Level → List Level
  cells_after [] cells = cells
  cells_after (task ∷ tasks) cells = cells_after tasks (act task cells).cells

  abbrev pub children_after : List Task → List Level → List Task
  children_after [] cells = []
  children_after (task ∷ tasks) cells = children_from task.key 0 (act task cells).children ++ children_after tasks (act task cells).cells

  abbrev pub entries_after : List Task → List Level → List Entry
  entries_after [] cells = []
  entries_after (task ∷ tasks) cells = (task.key, (act task cells).text) ∷ entries_after tasks (act task cells).cells

-- ---- children at one priority

module _ (basis : Basis) (key : Key) where
  -- the task is earlier than each child from the number on
  abbrev IsBeforeFrom : ℕ → ℕ → Task → Type 0
  IsBeforeFrom number prio task = (other : ℕ) → number ≤ other → key_cmp task.key (child_key key other prio) ≡ Less

  put_from : (number : ℕ) (starts : List Start) (prio : ℕ) (pending : List Task) → AllByRecursion (λ start. start.prio ≡ prio) starts
      → AllByRecursion (IsBeforeFrom number prio) pending → put_all (children_from key number starts) pending ≡ pending ++ children_from key number starts
  put_from number [] prio pending same before = sym (append-nil pending)
  put_from number (start ∷ starts) prio pending same before =
      let child : Task = record { key = child_key key number start.prio; body = start.body } in
      let rest = children_from key (suc number) starts in
      let here : AllByRecursion (λ other. key_cmp other.key child.key ≡ Less) pending =
      All-weaker (IsBeforeFrom number prio) (λ other. key_cmp other.key child.key ≡ Less) (λ other earlier. subst (λ (p : ℕ). key_cmp other.key (child_key key number p) ≡ Less) (sym same.0) (earlier number (omega arith)))
      pending before in
      let turned : IsBeforeFrom (suc number) prio child =
      λ other above. subst (λ (p : ℕ). key_cmp (child_key key number p) (child_key key other prio) ≡ Less) (sym same.0) (basis.in_turn key number other prio (omega arith)) in
      let still : AllByRecursion (IsBeforeFrom (suc number) prio) pending =
      All-weaker (IsBeforeFrom number prio) (IsBeforeFrom (suc number) prio) (λ task earlier other above. earlier other (omega arith)) pending before in
      ap (put_all rest) (basis.latest_last child pending here)
      ∙ put_from (suc number) starts prio (pending ++ child ∷ []) same.1 (All-push (IsBeforeFrom (suc number) prio) pending child still turned)
      ∙ append_assoc pending (child ∷ []) rest

  -- children go behind the tasks that are before each of them, and keep their order
  pub children_last : (number : ℕ) (starts : List Start) (prio : ℕ) (pending : List Task) → AllByRecursion (λ start. start.prio ≡ prio) starts
      → AllByRecursion (IsBeforeChildren key prio) pending → put_all (children_from key number starts) pending ≡ pending ++ children_from key number starts
  children_last number starts prio pending same before =
      put_from number starts prio pending same
      (All-weaker (IsBeforeChildren key prio) (IsBeforeFrom number prio) (λ task earlier other above. earlier other) pending before)

then_less : (o first second : Ordering) → ordering_then o first ≡ Less → (first ≡ Less → second ≡ Less) → ordering_then o second ≡ Less
then_less Less first second less goes = refl
then_less Equal first second less goes = goes less
then_less Greater first second less goes = absurd cc

-- of paths of one length, numbers behind them change nothing where they differ
paths_before : (a b : List ℕ) (i j : ℕ) → length a ≡ length b → slice_cmp nat_cmp a b ≡ Less → slice_cmp nat_cmp (a ++ i ∷ []) (b ++ j ∷ []) ≡ Less
paths_before [] [] i j long less = absurd cc
paths_before [] (y ∷ b) i j long less = absurd (omega arith)
paths_before (x ∷ a) [] i j long less = absurd (omega arith)
paths_before (x ∷ a) (y ∷ b) i j long less =
    then_less (nat_cmp x y) (slice_cmp nat_cmp a b) (slice_cmp nat_cmp (a ++ i ∷ []) (b ++ j ∷ [])) less (paths_before a b i j (omega arith))

same_then : (n m : ℕ) (o : Ordering) → n ≡ m → ordering_then (nat_cmp n m) o ≡ o
same_then n m o same = ap (λ (k : ℕ). ordering_then (nat_cmp n k) o) (sym same) ∙ ap (λ (c : Ordering). ordering_then c o) (tied_itself nat_cmp_total n)

-- of keys at one priority with paths of one length, the children of the earlier one are before those of the other
pub before_children : (p q : Key) → p.prio ≡ q.prio → length p.path ≡ length q.path → key_cmp p q ≡ Less
    → (i j prio : ℕ) → key_cmp (child_key p i prio) (child_key q j prio) ≡ Less
before_children p q same long less i j prio =
    same_then prio prio (slice_cmp nat_cmp (p.path ++ i ∷ []) (q.path ++ j ∷ [])) refl
    ∙ paths_before p.path q.path i j long (sym (same_then p.prio q.prio (slice_cmp nat_cmp p.path q.path) same) ∙ less)

lower_then : (m n : ℕ) (o : Ordering) → m < n → ordering_then (nat_cmp m n) o ≡ Less
lower_then m n o below = grind (arith, nat_tests)

-- a task at a lower priority is before them
pub lower_before : (key : Key) (prio : ℕ) (task : Task) → task.key.prio < prio → IsBeforeChildren key prio task
lower_before key prio task below number = lower_then task.key.prio prio (slice_cmp nat_cmp task.key.path (key.path ++ number ∷ [])) below
