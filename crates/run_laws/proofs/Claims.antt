-- A claim keeps an execution sound.
use Rattle.std.proofs.Common.{◌≡◌, ◌≢◌, ◌↔◌, inl, inr, ⊎_elim, ℕ, ◌<◌, ◌||◌, Bool, true, false, cond, List, [], ◌∷◌, length, is_some, refl, sym, ap, subst, ◌∙◌, arith}
use lib.ListN.{length-map}
use Rattle.std.specs.Prelude.{Contains, IsSome, IsTrue}
use Rattle.std.specs.List.{AllByRecursion, list_any}
use Rattle.std.specs.declared.cmp.Ordering.TheVariants.{Less}
use Rattle.std.specs.Ordering.{is_eq, is_lt}
use Rattle.std.proofs.lemmas.Bool.{and_parts, or_right, true≢false}
use Rattle.plain_laws.specs.Members.{all_at, all_from, found_is_there, from_filter, from_map, in_filter, in_map, none_passes, there}
use Rattle.plain_laws.specs.Options.{some_injective}
use Rattle.plain_laws.specs.Lists.{All-weaker}
use Rattle.plain_laws.specs.Bools.{false_from_not}
use Rattle.task_order.specs.declared.task.Task.{Task}
use Rattle.task_order.specs.Key.{key_cmp}
use Rattle.rw_sets.specs.Accesses.{IsWithin, Conflicts, access_at, conflicts_with, writes}
use Rattle.cell_store.specs.declared.cell.Cell.{Cell}
use Rattle.cell_store.specs.declared.cell.Cell.TheVariants.{Home, Out}
use Rattle.cell_store.specs.Cells.{AreHome, cell_at, cells_taken, part_of}
use Rattle.cell_store.specs.Home.{IsHome}
use Rattle.output_log.specs.Entries.{Entry}
use Rattle.kdg_graph.specs.Node.{Node}
use Rattle.kdg_graph.specs.Nodes.{IsGraph, earlier_than, node_at, node_with_key, started}
use Rattle.kdg_graph.specs.Edges.{is_blocked}
use Rattle.kdg_graph.specs.NodeLaws.{start, start_keeps_id, start_keeps_set, start_keeps_task}
use Rattle.app_laws.specs.Applications.{Application, IsInRange, set_in}
use Rattle.app_laws.specs.Order.{is_prefix}
use Rattle.commuting.specs.Clear.{IsReady}
use Rattle.commuting.specs.States.{state_of}
use Rattle.run_laws.specs.Basis.{Basis}
use Rattle.run_laws.specs.Jobs.{Job}
use Rattle.run_laws.specs.Events.{IsClaimed, is_clear, clear_nodes}
use Rattle.run_laws.specs.Laws.{ClaimsKeepSound}
use Rattle.run_laws.specs.Progress.{Progress}
use Rattle.run_laws.specs.Sound.{Covers, HasJob, IsOfNode, IsSound, IsWhole, JobsMatch, KeysAndCounts, is_unblocked, is_written}
use Rattle.run_laws.proofs.ClearNodes.{no_conflict}
use Rattle.run_laws.proofs.Starting.{start_cases, start_keeps_running, start_runs, started_graph, unblocked_started}

home_before : {V : Type 0} (taken : Bool) (cell : Cell V) → IsHome (cond taken Out cell) → IsHome cell
home_before true cell home = absurd home
home_before false cell home = home

module _ {V : Type 0} {app : Application V} (basis : Basis app) (old : Progress V) (jobs : List (Job V)) (values : List V) (node : Node)
    (sound : IsSound app old jobs values) (has : Contains old.nodes node) (clear : is_clear app old.nodes node ≡ true) where
  abbrev now_nodes : List Node
  now_nodes = started node.id old.nodes

  abbrev now_cells : List (Cell V)
  now_cells = cells_taken old.cells node.set

  abbrev claimed : Job V
  claimed = record { node = node.id; task = node.task; bundle = part_of old.cells node.set }

  abbrev now : Progress V
  now = record old { nodes = now_nodes; cells = now_cells }

  idle : node.running ≡ false
  idle = false_from_not node.running (and_parts _ _ clear).0

  unblocked : is_unblocked app old.nodes node ≡ true
  unblocked = (and_parts _ _ clear).1

  graph : IsGraph old.nodes
  graph = sound.keys_and_counts.graph

  pub same_node : (was : Node) → Contains old.nodes was → was.id ≡ node.id → was ≡ node
  same_node was there same = some_injective was node (sym (basis.lower.have_ids old.nodes was graph there) ∙ ap (node_at old.nodes) same ∙ basis.lower.have_ids old.nodes node graph has)

  other_key : (was : Node) → Contains old.nodes was → was.running ≡ true → was.task.key ≢ node.task.key
  other_key was there running same =
      let is = some_injective was node (sym (basis.lower.have_keys old.nodes was graph there) ∙ ap (node_with_key old.nodes) same ∙ basis.lower.have_keys old.nodes node graph has) in
      true≢false (sym running ∙ ap (λ (n : Node). n.running) is ∙ idle)

  -- ---- the bundle is home

  none_before : (first second : Node) → Contains old.nodes first → is_unblocked app old.nodes second ≡ true → key_cmp first.task.key second.task.key ≡ Less → ¬ Conflicts first.set second.set
  none_before first second there free earlier =
      no_conflict basis first.set second.set
      (none_passes (λ (n : Node). conflicts_with n.set second.set) (earlier_than second.task.key old.nodes) first
      (false_from_not (is_blocked old.nodes second) (and_parts _ _ free).0)
      (in_filter (λ (n : Node). is_lt (key_cmp n.task.key second.task.key)) old.nodes first there (ap is_lt earlier)))

  apart_from_running : (was : Node) → Contains old.nodes was → was.running ≡ true → ¬ Conflicts was.set node.set
  apart_from_running was there running conflict =
      let free = all_at (λ (n : Node). n.running ≡ true → is_unblocked app old.nodes n ≡ true) old.nodes was sound.running_unblocked there running in
      ⊎_elim
      (λ earlier. none_before was node there unblocked earlier conflict)
      (λ later. none_before node was has free later (basis.lower.turned was.set node.set conflict))
      (basis.lower.connected was.task.key node.task.key (other_key was there running))

  apart_from_job : (job : Job V) → IsOfNode app old.nodes job → ¬ Conflicts job.bundle.set node.set
  apart_from_job job (was, found, fits) conflict =
      let there = (basis.lower.keys_find old.nodes job.task.key was found).0 in
      apart_from_running was there fits.running (subst (λ set. Conflicts set node.set) (sym fits.set) conflict)

  unwritten : (loc : ℕ) → IsSome (access_at node.set loc) → (some : List (Job V)) → AllByRecursion (IsOfNode app old.nodes) some → is_written app some loc ≡ true → ⊥
  unwritten loc named [] all never = true≢false (sym never)
  unwritten loc named (job ∷ some) all written =
      let by_case : (test : Bool) → writes job.bundle.set loc ≡ test → (test || is_written app some loc) ≡ true → ⊥ = elim [
        | true ↦ λ is _. true≢false (sym named ∙ ap is_some (((basis.lower.independent job.bundle.set node.set).0 (apart_from_job job all.0)).left_writes loc is))
        | false ↦ λ _ rest. unwritten loc named some all.1 rest
      ] in
      by_case (writes job.bundle.set loc) refl written

  pub own_covers : Covers app old.cells values node
  own_covers = all_at (Covers app old.cells values) old.nodes node sound.recorded_covers has

  pub is_home : AreHome old.cells node.set
  is_home loc named =
      let below = own_covers.in_range.below loc named in
      let count = basis.lawful.cells_are_counted values sound.ready.cells in
      let many = sound.whole.home.as_many in
      let inside : loc < length old.cells = omega (arith, below, count, many) in
      let by_cell : (cell : Cell V) → cell_at old.cells loc ≡ cell → IsHome cell = elim [
        | Home value ↦ λ _. tt
        | Out ↦ λ is. unwritten loc named jobs sound.outs_match.named ((sound.whole.away loc inside).0 is)
      ] in
      by_cell (cell_at old.cells loc) refl

  -- ---- the cells

  away : (loc : ℕ) → loc < length now_cells → (cell_at now_cells loc ≡ Out) ↔ IsTrue (is_written app (claimed ∷ jobs) loc)
  away loc inside =
      let many = basis.cells.taken.as_many old.cells node.set in
      let before : loc < length old.cells = omega (arith, inside, many) in
      let each = basis.cells.taken.each old.cells node.set loc in
      let by_case : (test : Bool) → writes node.set loc ≡ test → (cell_at now_cells loc ≡ Out) ↔ IsTrue (is_written app (claimed ∷ jobs) loc) = elim [
        | true ↦ λ is. ((λ _. ap (λ test. test || is_written app jobs loc) is), (λ _. each ∙ ap (λ test. cond test Out (cell_at old.cells loc)) is))
        | false ↦ λ is.
            let same = each ∙ ap (λ test. cond test Out (cell_at old.cells loc)) is in
            let others = ap (λ test. test || is_written app jobs loc) is in
            ((λ out. others ∙ (sound.whole.away loc before).0 (sym same ∙ out)), (λ written. same ∙ (sound.whole.away loc before).1 (sym others ∙ written)))
      ] in
      by_case (writes node.set loc) refl

  whole : IsWhole app now_cells (claimed ∷ jobs) values
  whole = record {
    home = basis.cells.agreement.taken old.cells values values node.set sound.whole.home (basis.cells.changes.none values node.set);
    away = away;
    bundles = (basis.cells.agreement.same_part old.cells values node.set sound.whole.home is_home, sound.whole.bundles);
  }

  -- ---- the jobs

  graph_now : IsGraph now_nodes
  graph_now = started_graph basis.lower node.id old.nodes graph

  first_job : IsOfNode app now_nodes claimed
  first_job =
      let running : Node = record node { running = true } in
      let there = subst (λ (n : Node). Contains now_nodes n) (start_runs node) (in_map (start node.id) old.nodes node has) in
      (running, basis.lower.have_keys now_nodes running graph_now there, record { id = refl; task = refl; set = refl; running = refl })

  other_job : (job : Job V) → IsOfNode app old.nodes job → IsOfNode app now_nodes job
  other_job job (was, found, fits) =
      let at = basis.lower.keys_find old.nodes job.task.key was found in
      let key = ap (λ (task : Task). task.key) (start_keeps_task node.id was) ∙ at.1 in
      let there = in_map (start node.id) old.nodes was at.0 in (
        start node.id was,
        ap (node_with_key now_nodes) (sym key) ∙ basis.lower.have_keys now_nodes (start node.id was) graph_now there,
        record {
          id = start_keeps_id node.id was ∙ fits.id;
          task = start_keeps_task node.id was ∙ fits.task;
          set = start_keeps_set node.id was ∙ fits.set;
          running = start_keeps_running node.id was fits.running;
        },
      )

  has_job : (was : Node) → Contains old.nodes was → (start node.id was).running ≡ true → HasJob app (claimed ∷ jobs) (start node.id was)
  has_job was there running = elim (start_cases node.id was) [
    | inl same ↦
        let task = start_keeps_task node.id was ∙ ap (λ (n : Node). n.task) (same_node was there same) in
        ap (λ (task : Task). is_eq (key_cmp node.task.key task.key) || list_any (λ (job : Job V). is_eq (key_cmp job.task.key (start node.id was).task.key)) jobs) task
        ∙ ap (λ order. is_eq order || list_any (λ (job : Job V). is_eq (key_cmp job.task.key (start node.id was).task.key)) jobs) (basis.lower.equal node.task.key)
    | inr same ↦
        let old_job = all_at (λ (n : Node). n.running ≡ true → HasJob app jobs n) old.nodes was sound.outs_match.all there (ap (λ (n : Node). n.running) (sym same) ∙ running) in
        or_right (is_eq (key_cmp node.task.key (start node.id was).task.key)) (list_any (λ (job : Job V). is_eq (key_cmp job.task.key (start node.id was).task.key)) jobs)
        (subst (HasJob app jobs) (sym same) old_job)
  ]

  -- what holds of each node as it is now
  each_now : (P : Node → Type 0) → ((was : Node) → Contains old.nodes was → P (start node.id was)) → AllByRecursion P now_nodes
  each_now P each = all_from P now_nodes (λ other there.
      let from : (was : Node) × Contains old.nodes was × (start node.id was ≡ other) = from_map (start node.id) old.nodes other there in
      subst P from.2 (each from.0 from.1))

  own_task : (job : Job V) → IsOfNode app old.nodes job → node.task.key ≢ job.task.key
  own_task job (was, found, fits) same =
      let at = basis.lower.keys_find old.nodes job.task.key was found in
      other_key was at.0 fits.running (at.1 ∙ sym same)

  match_now : JobsMatch app now_nodes (claimed ∷ jobs)
  match_now = record {
    named = (first_job, All-weaker (IsOfNode app old.nodes) (IsOfNode app now_nodes) other_job jobs sound.outs_match.named);
    all = each_now (λ n. n.running ≡ true → HasJob app (claimed ∷ jobs) n) has_job;
    own = (All-weaker (IsOfNode app old.nodes) (λ job. node.task.key ≢ job.task.key) own_task jobs sound.outs_match.named, sound.outs_match.own);
  }

  -- ---- the nodes

  covers : (was : Node) → Contains old.nodes was → Covers app now_cells values (start node.id was)
  covers was there =
      let before = all_at (Covers app old.cells values) old.nodes was sound.recorded_covers there in
      let set = start_keeps_set node.id was in
      let task = start_keeps_task node.id was in
      let same_as = λ (is : was.set ≡ set_in app values was.task). set ∙ is ∙ ap (set_in app values) (sym task) in
      record {
        in_range = subst (IsInRange app) (sym set) before.in_range;
        within = subst (λ (task : Task). IsWithin (set_in app values task) (start node.id was).set) (sym task) (subst (λ recorded. IsWithin (set_in app values was.task) recorded) (sym set) before.within);
        running = λ running. elim (start_cases node.id was) [
          | inl same ↦ same_as (before.home (subst (λ (n : Node). AreHome old.cells n.set) (sym (same_node was there same)) is_home))
          | inr same ↦ same_as (before.running (ap (λ (n : Node). n.running) (sym same) ∙ running))
        ];
        home = λ home. same_as (before.home (λ loc named.
            home_before (writes node.set loc) (cell_at old.cells loc)
            (subst IsHome (basis.cells.taken.each old.cells node.set loc) (home loc (subst (λ recorded. IsSome (access_at recorded loc)) (sym set) named)))));
      }

  still_unblocked : (was : Node) → Contains old.nodes was → (start node.id was).running ≡ true → is_unblocked app now_nodes (start node.id was) ≡ true
  still_unblocked was there running = unblocked_started app basis.lower node.id old.nodes was ∙ elim (start_cases node.id was) [
    | inl same ↦ ap (is_unblocked app old.nodes) (same_node was there same) ∙ unblocked
    | inr same ↦ all_at (λ (n : Node). n.running ≡ true → is_unblocked app old.nodes n ≡ true) old.nodes was sound.running_unblocked there (ap (λ (n : Node). n.running) (sym same) ∙ running)
  ]

  keys_and_counts : KeysAndCounts app now
  keys_and_counts =
      let before = sound.keys_and_counts in
      let created = before.created in
      let many = length-map old.nodes (start node.id) in
      record {
        graph = graph_now;
        log_ordered = before.log_ordered;
        log_differs = before.log_differs;
        unlogged = subst (λ tasks. AllByRecursion (λ (task : Task). AllByRecursion (λ (entry : Entry). is_prefix task.key.path entry.0.path ≡ false) old.log) tasks) (sym (basis.lower.starts_keep_tasks node.id old.nodes)) before.unlogged;
        created = omega (arith, created, many);
        within = before.within;
        logged = before.logged;
      }

  claim_is_sound : IsSound app now (claimed ∷ jobs) values
  claim_is_sound = record {
    keys_and_counts = keys_and_counts;
    outs_match = match_now;
    whole = whole;
    ready = subst (λ tasks. IsReady app (state_of values tasks)) (sym (basis.lower.starts_keep_tasks node.id old.nodes)) sound.ready;
    recorded_covers = each_now (Covers app now_cells values) covers;
    running_unblocked = each_now (λ n. n.running ≡ true → is_unblocked app now_nodes n ≡ true) still_unblocked;
  }

pub claimed_is_clear : {V : Type 0} {app : Application V} {old now : Progress V} {pick : ℕ} {job : Job V} (claimed : IsClaimed app old pick now job)
    → Contains old.nodes claimed.node × (is_clear app old.nodes claimed.node ≡ true)
claimed_is_clear {V} {app} {old} claimed = from_filter (is_clear app old.nodes) old.nodes claimed.node (found_is_there (clear_nodes app old.nodes) _ claimed.node claimed.chosen)

pub claims_keep_sound : {V : Type 0} {app : Application V} → Basis app → ClaimsKeepSound app
claims_keep_sound {V} {app} basis old _ pick job jobs values sound claimed =
    let among = claimed_is_clear claimed in
    let first = claim_is_sound basis old jobs values claimed.node sound among.0 among.1 in
    subst (λ (progress : Progress V). IsSound app progress (job ∷ jobs) values) (sym claimed.after)
    (subst (λ (one : Job V). IsSound app (record old { nodes = started claimed.node.id old.nodes; cells = cells_taken old.cells claimed.node.set }) (one ∷ jobs) values) (sym claimed.job_is) first)
