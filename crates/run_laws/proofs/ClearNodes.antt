-- Clear and running nodes are clear tasks, and the earliest node is clear while nothing is running.
use Rattle.std.proofs.Common.{◌≡◌, ◌≢◌, ◌&&◌, not, Bool, true, false, cond, List, [], ◌∷◌, refl, sym, ap, subst, ◌∙◌}
use Rattle.std.specs.Prelude.{Contains}
use Rattle.std.specs.List.{AllByRecursion, filter, list_any}
use Rattle.std.specs.declared.cmp.Ordering.{Ordering}
use Rattle.std.specs.declared.cmp.Ordering.TheVariants.{Less, Equal, Greater}
use Rattle.std.specs.Ordering.{is_lt}
use Rattle.std.proofs.lemmas.Bool.{and_from, and_parts, true≢false}
use Rattle.plain_laws.specs.Members.{here, all_at, from_filter, in_map, none_passes}
use Rattle.plain_laws.specs.Bools.{false_from_not}
use Rattle.task_order.specs.declared.key.Key.{Key}
use Rattle.task_order.specs.declared.task.Task.{Task}
use Rattle.task_order.specs.Key.{key_cmp}
use Rattle.task_order.specs.TaskList.{IsAscending}
use Rattle.rw_sets.specs.Accesses.{Accesses, Conflicts, conflicts_with}
use Rattle.kdg_graph.specs.Node.{Node}
use Rattle.kdg_graph.specs.Nodes.{tasks_of, earlier_than}
use Rattle.kdg_graph.specs.Edges.{is_blocked}
use Rattle.app_laws.specs.Applications.{Application, IsFitTask, set_in}
use Rattle.commuting.specs.Clear.{IsClear}
use Rattle.run_laws.specs.Basis.{Basis}
use Rattle.run_laws.specs.Jobs.{Job}
use Rattle.run_laws.specs.Events.{is_clear, clear_nodes}
use Rattle.run_laws.specs.Laws.{RecordedSetsSuffice, SomeIsClear}
use Rattle.run_laws.specs.NodeLists.{all-tasks, tasks-earlier_than, wider_conflict}
use Rattle.run_laws.specs.Progress.{Progress, whole_state}
use Rattle.run_laws.specs.Sound.{Covers, HasJob, IsSound, is_unblocked}

module _ {V : Type 0} {app : Application V} (basis : Basis app) where
  -- where the test finds no conflict there is none
  pub no_conflict : (set other : Accesses) → conflicts_with set other ≡ false → ¬ Conflicts set other
  no_conflict set other none conflict = true≢false (sym ((basis.lower.decided set other).1 conflict) ∙ none)

  pub unblocked_is_clear : (progress : Progress V) (jobs : List (Job V)) (values : List V) (node : Node) → IsSound app progress jobs values
      → Contains progress.nodes node → is_unblocked app progress.nodes node ≡ true → IsClear app (whole_state progress values) node.task
  unblocked_is_clear progress jobs values node sound has unblocked =
      let parts = and_parts _ _ unblocked in
      let none = false_from_not (is_blocked progress.nodes node) parts.0 in
      let same = tasks-earlier_than node.task.key progress.nodes in
      let covers = λ (other : Node) (there : Contains progress.nodes other). all_at (Covers app progress.cells values) progress.nodes other sound.recorded_covers there in
      let Apart = λ (other : Task). ¬ Conflicts (set_in app values other) (set_in app values node.task) in
      record {
        pending = in_map (λ (n : Node). n.task) progress.nodes node has;
        unblocked = record {
          apart = subst (λ tasks. AllByRecursion Apart tasks) same
              (all-tasks Apart (earlier_than node.task.key progress.nodes)
              (λ other earlier conflict.
              let there = (from_filter _ progress.nodes other earlier).0 in
              no_conflict other.set node.set (none_passes (λ (n : Node). conflicts_with n.set node.set) (earlier_than node.task.key progress.nodes) other none earlier)
              (wider_conflict basis.lower _ _ node.set other.set (covers node has).within (covers other there).within conflict)));
          safe = ap (app.is_safe node.task) (sym same) ∙ parts.1;
        };
      }

  pub recorded_sets_suffice : RecordedSetsSuffice app
  recorded_sets_suffice = record {
    clear = λ progress jobs values node sound has clear. unblocked_is_clear progress jobs values node sound has (and_parts _ _ clear).1;
    running = λ progress jobs values node sound has running. unblocked_is_clear progress jobs values node sound has
        (all_at (λ (n : Node). n.running ≡ true → is_unblocked app progress.nodes n ≡ true) progress.nodes node sound.running_unblocked has running);
  }

  -- ---- the earliest node

  not_earlier : (key other : Key) → (key_cmp key other ≡ Less → ⊥) → is_lt (key_cmp key other) ≡ false
  not_earlier key other never = by_case (key_cmp key other) never
    where
      by_case : (order : Ordering) → (order ≡ Less → ⊥) → is_lt order ≡ false
      by_case Less never = absurd (never refl)
      by_case Equal never = refl
      by_case Greater never = refl

  none_earlier : (key : Key) (nodes : List Node) → AllByRecursion (λ task. key_cmp key task.key ≡ Less) (tasks_of nodes) → earlier_than key nodes ≡ []
  none_earlier key [] later = refl
  none_earlier key (node ∷ nodes) later =
      let fails = not_earlier node.task.key key (λ less. basis.lower.irreflexive key key (basis.lower.transitive key node.task.key key later.0 less) refl) in
      ap (λ test. cond test (node ∷ earlier_than key nodes) (earlier_than key nodes)) fails ∙ none_earlier key nodes later.1

  pub earliest_first : (node : Node) (nodes : List Node) → AllByRecursion (λ task. key_cmp node.task.key task.key ≡ Less) (tasks_of nodes) → earlier_than node.task.key (node ∷ nodes) ≡ []
  earliest_first node nodes later =
      let fails = not_earlier node.task.key node.task.key (λ less. basis.lower.irreflexive node.task.key node.task.key less refl) in
      ap (λ test. cond test (node ∷ earlier_than node.task.key nodes) (earlier_than node.task.key nodes)) fails ∙ none_earlier node.task.key nodes later

  -- where nothing is earlier, the node is unblocked
  pub unblocked_where_first : (nodes : List Node) (node : Node) → IsFitTask app node.task → earlier_than node.task.key nodes ≡ [] → is_unblocked app nodes node ≡ true
  unblocked_where_first nodes node fit none =
      ap (λ earlier. not (list_any (λ (other : Node). conflicts_with other.set node.set) earlier) && app.is_safe node.task (tasks_of earlier)) none
      ∙ basis.lawful.safe_alone node.task fit

  head_is_clear : (nodes : List Node) (node : Node) (others : List Node) → nodes ≡ node ∷ others → node.running ≡ false → is_unblocked app nodes node ≡ true → clear_nodes app nodes ≢ []
  head_is_clear nodes node others is idle unblocked empty =
      let clear : is_clear app nodes node ≡ true = and_from _ _ (ap not idle) unblocked in
      let first : clear_nodes app nodes ≡ cond (is_clear app nodes node) (node ∷ filter (is_clear app nodes) others) (filter (is_clear app nodes) others)
      = ap (filter (is_clear app nodes)) is in
      let taken = first ∙ ap (λ test. cond test (node ∷ filter (is_clear app nodes) others) (filter (is_clear app nodes) others)) clear in
      let never : node ∷ filter (is_clear app nodes) others ≡ [] = sym taken ∙ empty in
      absurd (cons_is_not_nil never)
    where
      cons_is_not_nil : {X : Type 0} {x : X} {xs : List X} → x ∷ xs ≡ [] → ⊥
      cons_is_not_nil same = cc

  pub idle : (running : Bool) → (running ≡ true → ⊥) → running ≡ false
  idle true never = absurd (never refl)
  idle false never = refl

  pub some_is_clear : SomeIsClear app
  some_is_clear progress values sound some = by_nodes progress.nodes refl
    where
      by_nodes : (nodes : List Node) → progress.nodes ≡ nodes → clear_nodes app progress.nodes ≢ []
      by_nodes [] is = absurd (some is)
      by_nodes (node ∷ nodes) is =
          let has = subst (λ list. Contains list node) (sym is) (here node nodes) in
          let ascending = subst (λ list. IsAscending (tasks_of list)) is sound.keys_and_counts.graph.ascending in
          let first = ap (earlier_than node.task.key) is ∙ earliest_first node nodes ascending.0 in
          let fit = all_at (IsFitTask app) (tasks_of progress.nodes) node.task sound.ready.tasks (in_map (λ (n : Node). n.task) progress.nodes node has) in
          let none = λ (running : node.running ≡ true). true≢false (sym (all_at (λ (n : Node). n.running ≡ true → HasJob app [] n) progress.nodes node sound.outs_match.all has running)) in
          head_is_clear progress.nodes node nodes is (idle node.running none) (unblocked_where_first progress.nodes node fit first)
