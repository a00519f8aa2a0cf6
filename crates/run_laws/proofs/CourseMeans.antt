-- What having come from a start means: the runs from there, joined by key, and their end.
use Rattle.std.proofs.Common.{◌≡◌, ◌≢◌, ℕ, ◌+◌, ◌-◌, true, false, not, cond, List, [], ◌∷◌, ◌++◌, append-nil, length, length-append, Option, Some, None, refl, sym, ap, subst, ◌∙◌, arith}
use Rattle.std.specs.Prelude.{IfSome, IsSomeAnd}
use Rattle.std.specs.List.{AllByRecursion}
use Rattle.std.specs.List.Sorted.{IsStrictlySortedBy}
use Rattle.std.specs.Ordering.{is_lt}
use Rattle.std.specs.declared.cmp.Ordering.TheVariants.{Less}
use Rattle.plain_laws.specs.Members.{all_from}
use Rattle.plain_laws.specs.Lists.{All-filter, All-middle, All-weaker}
use Rattle.task_order.specs.declared.key.Key.{Key}
use Rattle.task_order.specs.declared.task.Task.{Task}
use Rattle.task_order.specs.Key.{Bound, at_key, end, key_cmp}
use Rattle.task_order.specs.KeyLaws.{not_past_earlier}
use Rattle.cell_store.specs.Values.{homes}
use Rattle.output_log.specs.Entries.{Entry, IsInKeyOrder, IsNewEntry, ShareNoKey, entries_before, is_entry_before, joined_by_key}
use Rattle.kdg_graph.specs.Node.{Node}
use Rattle.kdg_graph.specs.Nodes.{tasks_of}
use Rattle.app_laws.specs.Applications.{Application}
use Rattle.app_laws.specs.Execution.{Execution, is_clear_before}
use Rattle.app_laws.specs.Order.{is_prefix}
use Rattle.commuting.specs.Commuting.{BothEnd}
use Rattle.commuting.specs.Standing.{ComeBefore, IsEndWith, IsLaterLog, IsRestOf}
use Rattle.commuting.specs.States.{execution_from, run_from}
use Rattle.run_laws.specs.Basis.{LowerLaws}
use Rattle.run_laws.specs.Course.{HasCome}
use Rattle.run_laws.specs.CourseBasis.{CourseBasis}
use Rattle.run_laws.specs.CourseLaws.{CoursesMeanTheSequentialRun, IsJoinedRest, IsSequentialEnd, NoNodesAreTheEnd, least_bound, log_after}
use Rattle.run_laws.specs.Events.{drainable, undrainable}
use Rattle.run_laws.specs.Jobs.{Job}
use Rattle.run_laws.specs.Progress.{Progress, whole_state}
use Rattle.run_laws.specs.Rest.{NoneRuns}
use Rattle.run_laws.specs.Sound.{IsSound}
use Rattle.run_laws.proofs.AtRest.{no_jobs_are_rest, no_jobs_where_none_runs}
use Rattle.run_laws.proofs.Behind.{by_tasks, differs_without_prefix}
use Rattle.run_laws.proofs.CourseDrains.{all_entries, clear_to_least, drainable_before, drained_all, drained_parts, first_to, log_to, none_earlier}

-- both of two runs that end are related otherwise, where something holds of what the second one comes to
both_so : {V : Type 0} (R Q : Execution V → Execution V → Type 0) (P : Execution V → Type 0) → ((e rest : Execution V) → R e rest → P rest → Q e rest)
    → (first second : Option (Execution V)) → BothEnd R first second → IfSome second P → BothEnd Q first second
both_so R Q P each None None both holds = tt
both_so R Q P each None (Some rest) both holds = absurd both
both_so R Q P each (Some e) None both holds = absurd both
both_so R Q P each (Some e) (Some rest) both holds = each e rest both holds

-- two things hold of what a run comes to
both_hold : {V : Type 0} (P Q : Execution V → Type 0) (run : Option (Execution V)) → IfSome run P → IfSome run Q → IfSome run (λ e. P e × Q e)
both_hold P Q None first second = tt
both_hold P Q (Some e) first second = (first, second)

some_so : {X : Type 0} (P Q : X → Type 0) → ((x : X) → P x → Q x) → (o : Option X) → IsSomeAnd o P → IsSomeAnd o Q
some_so P Q each None never = never
some_so P Q each (Some x) is = each x is

-- ---- the entries before one of them

module _ (lower : LowerLaws) where
  none_in : (key : Key) (entries : List Entry) → AllByRecursion (λ (entry : Entry). key_cmp key entry.0 ≡ Less) entries → entries_before (at_key key) entries ≡ []
  none_in key [] later = refl
  none_in key (entry ∷ entries) later =
      ap (λ test. cond test (entry ∷ entries_before (at_key key) entries) (entries_before (at_key key) entries)) (not_past_earlier key entry.0 later.0) ∙ none_in key entries later.1

  before_itself : (front : List Entry) (entry : Entry) (back : List Entry) → IsInKeyOrder (front ++ entry ∷ back) → entries_before (at_key entry.0) (front ++ entry ∷ back) ≡ front
  unfolding IsStrictlySortedBy
  before_itself [] entry back ordered =
      ap (λ order. cond (is_lt order) (entry ∷ entries_before (at_key entry.0) back) (entries_before (at_key entry.0) back)) (lower.equal entry.0) ∙ none_in entry.0 back ordered.0
  before_itself (first ∷ front) entry back ordered =
      ap (λ order. cond (is_lt order) (first ∷ entries_before (at_key entry.0) (front ++ entry ∷ back)) (entries_before (at_key entry.0) (front ++ entry ∷ back)))
      (All-middle (λ (other : Entry). key_cmp first.0 other.0 ≡ Less) front entry back ordered.0)
      ∙ ap (λ rest. first ∷ rest) (before_itself front entry back ordered.1)

module _ {V : Type 0} {app : Application V} (basis : CourseBasis app) where
  module _ {start now : Progress V} {cells : List V} {before entries : List Entry} {jobs : List (Job V)} {values : List V} (come : HasCome app start cells before entries now jobs values) where
    -- ---- what the rest logs

    abbrev rest_of : Bound → ℕ → Option (Execution V)
    rest_of bound limit = run_from app.act limit bound (whole_state now values)

    none_come_before : ComeBefore [] (tasks_of now.nodes)
    none_come_before = all_from (λ (task : Task). AllByRecursion (λ (entry : Entry). key_cmp entry.0 task.key ≡ Less) []) (tasks_of now.nodes) (λ _ _. tt)

    joined_rest : (bound : Bound) (e rest : Execution V) → IsRestOf bound (entries_before bound entries) e rest → IsLaterLog [] rest.log × ShareNoKey entries rest.log → IsJoinedRest app bound (entries_before bound entries) e rest
    joined_rest bound e rest is logs =
        let ended = entries_before bound entries in
        let ascend = (basis.begun.lower.parts_in_order bound entries come.stands.ordered).0 in
        let apart : ShareNoKey ended rest.log = All-weaker (λ (other : Entry). IsNewEntry other.0 entries) (λ (other : Entry). IsNewEntry other.0 ended)
        (λ other new. All-filter (λ (entry : Entry). entry.0 ≢ other.0) (is_entry_before bound) entries new) rest.log logs.1 in
        record {
          ascends = logs.0.ordered;
          apart = apart;
          log = is.log-is ∙ sym (basis.joins_commute ended rest.log ascend logs.0.ordered apart);
          cells_are = is.cells-are;
        }

    runs_join : (bound : Bound) (limit : ℕ) → let ended = entries_before bound entries in BothEnd (IsJoinedRest app bound ended) (run_from app.act (length ended + limit) bound (whole_state start cells)) (rest_of bound limit)
    runs_join bound limit =
        let ended = entries_before bound entries in
        let stands = come.stands in
        both_so (IsRestOf bound ended) (IsJoinedRest app bound ended) (λ (rest : Execution V). IsLaterLog [] rest.log × ShareNoKey entries rest.log) (joined_rest bound)
        (run_from app.act (length ended + limit) bound (whole_state start cells)) (rest_of bound limit) (stands.same_rest bound limit)
        (both_hold (λ (rest : Execution V). IsLaterLog [] rest.log) (λ (rest : Execution V). ShareNoKey entries rest.log) (rest_of bound limit)
        (basis.log_later (whole_state now values) [] stands.ready none_come_before limit bound) (basis.log_new_keys (whole_state now values) entries stands.ready stands.unlogged limit bound))

    no_nodes : AllByRecursion (λ (node : Node). IsNewEntry node.task.key entries) now.nodes
    no_nodes =
        let Unlogged = λ (task : Task) (entry : Entry). is_prefix task.key.path entry.0.path ≡ false in
        by_tasks (λ (task : Task). IsNewEntry task.key entries) now.nodes
        (All-weaker (λ (task : Task). AllByRecursion (Unlogged task) entries) (λ (task : Task). IsNewEntry task.key entries)
        (λ task. All-weaker (Unlogged task) (λ (entry : Entry). entry.0 ≢ task.key) (λ entry none same. differs_without_prefix task.key.path entry.0.path none (ap (λ (key : Key). key.path) same)) entries)
        (tasks_of now.nodes) come.stands.unlogged)

    -- ---- what was drained is the log of the first steps

    module _ (none : start.log ≡ []) where
      first_steps : (bound : Bound) → is_clear_before bound (execution_from (whole_state now values)) ≡ true → entries_before bound (before ++ now.log) ≡ before → before ≡ log_after app start cells (length before)
      first_steps bound clear is =
          let all = log_to basis come none bound clear ∙ is in
          sym all ∙ ap (λ (log : List Entry). log_after app start cells (length log)) (ap (entries_before bound) (all_entries basis come none) ∙ is)

      -- where a drain would take out more, up to the first of these
      by_more : (more : List Entry) → drainable app now.nodes now.log ≡ more → before ≡ log_after app start cells (length before)
      by_more [] is = first_steps (least_bound now.nodes) (clear_to_least basis come) (sym (drained_all basis come) ∙ ap (λ last. before ++ last) is ∙ append-nil before)
      by_more (entry ∷ more) is =
          let counts = come.sound.keys_and_counts in
          let log : now.log ≡ entry ∷ (more ++ undrainable app now.nodes now.log) = drained_parts basis now.nodes now.log counts.log_ordered ∙ ap (λ first. first ++ undrainable app now.nodes now.log) is in
          let all = ap (λ last. before ++ last) log in
          let ordered = subst IsInKeyOrder (all_entries basis come none ∙ all) come.stands.ordered in
          let earlier = subst (λ drained. ComeBefore drained (tasks_of now.nodes)) is (drainable_before basis now.nodes now.log counts.graph.ascending) in
          let later = All-weaker (λ (task : Task). AllByRecursion (λ (one : Entry). key_cmp one.0 task.key ≡ Less) (entry ∷ more)) (λ (task : Task). key_cmp entry.0 task.key ≡ Less) (λ task less. less.0) (tasks_of now.nodes) earlier in
          first_steps (at_key entry.0) (ap not (none_earlier basis.begun.lower entry.0 (tasks_of now.nodes) later))
          (ap (entries_before (at_key entry.0)) all ∙ before_itself basis.begun.lower before entry (more ++ undrainable app now.nodes now.log) ordered)

  pub courses_mean_the_sequential_run : CoursesMeanTheSequentialRun app
  courses_mean_the_sequential_run start cells before entries now jobs values come = record {
    as_many = omega (arith, length-append before now.log, ap length come.logged, basis.joins_add_lengths start.log entries);
    ascend = come.stands.ordered;
    no_nodes = no_nodes come;
    runs = runs_join come;
    first = first_to basis come;
    drained_first = λ none. by_more come none (drainable app now.nodes now.log) refl;
  }

  pub no_nodes_are_the_end : NoNodesAreTheEnd app
  no_nodes_are_the_end start cells before entries now jobs values come empty =
      let counts = come.sound.keys_and_counts in
      let no_jobs = (no_jobs_where_none_runs basis.begun now jobs values come.sound).1 (subst NoneRuns (sym empty) tt) in
      let rest = no_jobs_are_rest basis.begun now values (subst (λ (held : List (Job V)). IsSound app now held values) no_jobs come.sound) in
      record {
        no_jobs = no_jobs;
        within = omega (arith, come.ended, come.limit, counts.created, counts.within);
        runs = λ limit up_to.
            some_so (IsEndWith entries values) (IsSequentialEnd app start cells before now)
            (λ (e : Execution V) is. record {
              home = rest.cells ∙ ap homes (sym is.cells-are);
              log = sym come.logged ∙ ap (joined_by_key start.log) (sym is.log-is);
              ended = come.ended ∙ ap (λ (log : List Entry). start.ended + length log) (sym is.log-is);
            })
            (run_from app.act limit end (whole_state start cells))
            (basis.last (whole_state start cells) (whole_state now values) entries come.stands (ap tasks_of empty) limit up_to);
      }
