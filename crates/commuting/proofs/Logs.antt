-- What runs log: in key order, and with keys of which holds what is handed down from the keys of the pending tasks.
use Rattle.std.proofs.Common.{◌≡◌, ℕ, zero, suc, Bool, true, false, List, [], ◌∷◌, Option, Some, None, refl, sym, subst}
use Rattle.std.specs.Prelude.{IfSome}
use Rattle.std.specs.List.{AllByRecursion}
use Rattle.std.specs.List.Sorted.{IsStrictlySortedBy}
use Rattle.std.specs.Option.{option_map}
use Rattle.std.specs.declared.cmp.Ordering.TheVariants.{Less}
use Rattle.plain_laws.specs.Lists.{All-weaker, All-joined, All-swapped}
use Rattle.task_order.specs.declared.key.Key.{Key}
use Rattle.task_order.specs.declared.task.Task.{Task}
use Rattle.task_order.specs.Key.{Bound, key_cmp, key_cmp_total}
use Rattle.task_order.specs.TaskListLaws.{All-put_all}
use Rattle.output_log.specs.Entries.{Entry, IsInKeyOrder, IsNewEntry}
use Rattle.app_laws.specs.Applications.{Application, IsFitTask}
use Rattle.app_laws.specs.Execution.{Execution}
use Rattle.app_laws.specs.Order.{is_prefix}
use Rattle.app_laws.specs.ApartLaws.{is_prefix-same}
use Rattle.commuting.specs.Basis.{Basis}
use Rattle.commuting.specs.Clear.{IsReady}
use Rattle.commuting.specs.Standing.{RunsLogLater, RunsLogNewKeys}
use Rattle.commuting.specs.States.{State, state_of, execution_from, run_from, entry_of}
use Rattle.commuting.proofs.Runs.{none_before, with_front, turn, run_clear, run_refused, run_task}
use Rattle.commuting.proofs.Turns.{IsBeside, beside_rest, children_of, children_later, ready_turn}
use Rattle.commuting.specs.EndLaws.{new_where_unlogged}

-- the log is in key order, and this holds of its keys
pub record IsLogOf {V : Type 0} (P : Key → Type 0) (e : Execution V) : Type 0 where
  pub ordered : IsInKeyOrder e.log
  pub all : AllByRecursion (λ entry. P entry.0) e.log

nothing_logged : {V : Type 0} (P : Key → Type 0) (state : State V) → IsLogOf P (execution_from state)
unfolding IsStrictlySortedBy
nothing_logged P state = record { ordered = tt; all = tt }

-- this holds of a key, and it is later than another
abbrev IsAfter : (Key → Type 0) → Key → Key → Type 0
IsAfter P first key = P key × (key_cmp first key ≡ Less)

-- one entry more, in front of later ones
one_more : {V : Type 0} (P : Key → Type 0) (entry : Entry) → P entry.0 → (e : Execution V) → IsLogOf (IsAfter P entry.0) e → IsLogOf P (with_front (entry ∷ []) e)
unfolding IsStrictlySortedBy
one_more P entry here e logs =
    let After = λ (other : Entry). IsAfter P entry.0 other.0 in
    record {
      ordered = (All-weaker After (λ other. key_cmp entry.0 other.0 ≡ Less) (λ other after. after.1) e.log logs.all, logs.ordered);
      all = (here, All-weaker After (λ other. P other.0) (λ other after. after.0) e.log logs.all);
    }

one_more_mapped : {V : Type 0} (P : Key → Type 0) (entry : Entry) → P entry.0 → (run : Option (Execution V)) → IfSome run (IsLogOf (IsAfter P entry.0))
    → IfSome (option_map (with_front (entry ∷ [])) run) (IsLogOf P)
one_more_mapped P entry here None logs = tt
one_more_mapped P entry here (Some e) logs = one_more P entry here e logs

module _ {V : Type 0} {app : Application V} (basis : Basis app) where
  -- ---- what is handed down

  -- what holds of a task's key and so of its children's keys
  abbrev pub IsHandedDown : (Key → Type 0) → Type 0
  IsHandedDown P = (task : Task) (cells : List V) → app.is_fit_cells cells → IsFitTask app task → P task.key → AllByRecursion (λ child. P child.key) (children_of app cells task)

  pub later_handed : (first : Key) → IsHandedDown (λ key. key_cmp first key ≡ Less)
  later_handed first task cells fit_cells fit less =
      All-weaker (λ child. key_cmp task.key child.key ≡ Less) (λ child. key_cmp first child.key ≡ Less) (λ child after. key_cmp_total.trans first task.key child.key less after)
      (children_of app cells task) (children_later basis task cells fit_cells fit)

  -- of each of the entries
  each_handed : (R : Key → Key → Type 0) → ((other : Key) → IsHandedDown (R other)) → (entries : List Entry) → IsHandedDown (λ key. AllByRecursion (λ entry. R entry.0 key) entries)
  each_handed R handed entries task cells fit_cells fit all =
      let children = children_of app cells task in
      All-swapped (λ child entry. R entry.0 child.key) children entries
      (All-weaker (λ entry. R entry.0 task.key) (λ entry. AllByRecursion (λ child. R entry.0 child.key) children) (λ entry. handed entry.0 task cells fit_cells fit) entries all)

  pub unlogged_handed : (entries : List Entry) → IsHandedDown (λ key. AllByRecursion (λ entry. is_prefix key.path entry.0.path ≡ false) entries)
  unlogged_handed =
      each_handed (λ logged key. is_prefix key.path logged.path ≡ false)
      (λ logged task cells fit_cells fit. basis.lower.children_new task.key (app.act task cells).children logged.path)

  after_handed : (P : Key → Type 0) → IsHandedDown P → (first : Key) → IsHandedDown (IsAfter P first)
  after_handed P handed first task cells fit_cells fit after =
      All-joined (λ child. P child.key) (λ child. key_cmp first child.key ≡ Less) (λ child. IsAfter P first child.key) (λ child one two. (one, two))
      (children_of app cells task) (handed task cells fit_cells fit after.0) (later_handed first task cells fit_cells fit after.1)

  -- ---- runs

  -- what a task leaves that is earlier than the others
  all_after : (P : Key → Type 0) → IsHandedDown P → (task : Task) (others : State V) → IsBeside app task others → P task.key → AllByRecursion (λ other. P other.key) others.pending
      → AllByRecursion (λ other. key_cmp task.key other.key ≡ Less) others.pending → AllByRecursion (λ other. IsAfter P task.key other.key) (turn app.act task others).pending
  all_after P handed task others beside here all later =
      let children = children_of app others.cells task in
      let joined = All-joined (λ other. P other.key) (λ other. key_cmp task.key other.key ≡ Less) (λ other. IsAfter P task.key other.key) (λ other one two. (one, two)) in
      let fit_cells = beside.ready.cells in
      All-put_all (λ other. IsAfter P task.key other.key) children others.pending
      (joined children (handed task others.cells fit_cells beside.fit here) (children_later basis task others.cells fit_cells beside.fit))
      (joined others.pending all later)

  pub logs_of : (P : Key → Type 0) → IsHandedDown P → (limit : ℕ) (bound : Bound) (cells : List V) (pending : List Task) → IsReady app (state_of cells pending)
      → AllByRecursion (λ task. P task.key) pending → IfSome (run_from app.act limit bound (state_of cells pending)) (IsLogOf P)
  logs_of P handed zero bound cells pending ready all = by_case (none_before bound pending) refl
    where
      by_case : (clear : Bool) → none_before bound pending ≡ clear → IfSome (run_from app.act zero bound (state_of cells pending)) (IsLogOf P)
      by_case true clear = subst (λ run. IfSome run (IsLogOf P)) (sym (run_clear basis.runs zero bound (execution_from (state_of cells pending)) clear)) (nothing_logged P (state_of cells pending))
      by_case false busy = subst (λ run. IfSome run (IsLogOf P)) (sym (run_refused basis.runs bound (execution_from (state_of cells pending)) busy)) tt
  logs_of P handed (suc limit) bound cells [] ready all =
      subst (λ run. IfSome run (IsLogOf P)) (sym (run_clear basis.runs (suc limit) bound (execution_from (state_of cells [])) refl)) (nothing_logged P (state_of cells []))
  logs_of P handed (suc limit) bound cells (task ∷ others) ready all =
      by_case (none_before bound (task ∷ others)) refl
      (logs_of (IsAfter P task.key) (after_handed P handed task.key) limit bound next.cells next.pending (ready_turn basis task rest beside)
      (all_after P handed task rest beside all.0 all.1 ready.ascending.0))
    where
      rest : State V
      rest = state_of cells others

      next : State V
      next = turn app.act task rest

      beside : IsBeside app task rest
      beside = beside_rest basis cells task others ready

      by_case : (clear : Bool) → none_before bound (task ∷ others) ≡ clear → IfSome (run_from app.act limit bound next) (IsLogOf (IsAfter P task.key))
          → IfSome (run_from app.act (suc limit) bound (state_of cells (task ∷ others))) (IsLogOf P)
      by_case true clear logs =
          subst (λ run. IfSome run (IsLogOf P)) (sym (run_clear basis.runs (suc limit) bound (execution_from (state_of cells (task ∷ others))) clear)) (nothing_logged P (state_of cells (task ∷ others)))
      by_case false busy logs =
          subst (λ run. IfSome run (IsLogOf P)) (sym (run_task basis.runs limit bound cells task others busy))
          (one_more_mapped P (entry_of app.act cells task) all.0 (run_from app.act limit bound next) logs)

  logged_so : (P : Key → Type 0) (Q : Execution V → Type 0) → ((e : Execution V) → IsLogOf P e → Q e) → (run : Option (Execution V)) → IfSome run (IsLogOf P) → IfSome run Q
  logged_so P Q each None logs = tt
  logged_so P Q each (Some e) logs = each e logs

  pub runs_log_later : RunsLogLater app
  runs_log_later state entries ready earlier limit bound =
      let Later = λ (key : Key). AllByRecursion (λ entry. key_cmp entry.0 key ≡ Less) entries in
      logged_so Later _ (λ e logs. record { ordered = logs.ordered; later = logs.all }) (run_from app.act limit bound state)
      (logs_of Later (each_handed (λ first key. key_cmp first key ≡ Less) later_handed entries) limit bound state.cells state.pending ready earlier)

  pub runs_log_new_keys : RunsLogNewKeys app
  runs_log_new_keys state entries ready unlogged limit bound =
      let Unlogged = λ (key : Key). AllByRecursion (λ entry. is_prefix key.path entry.0.path ≡ false) entries in
      logged_so Unlogged _ (λ e logs. All-weaker (λ other. Unlogged other.0) (λ other. IsNewEntry other.0 entries) (λ other. new_where_unlogged other.0 entries) e.log logs.all) (run_from app.act limit bound state)
      (logs_of Unlogged (unlogged_handed entries) limit bound state.cells state.pending ready unlogged)
