-- First tasks on cells that are all home are sound, and so what begins is.
use Rattle.std.proofs.Common.{◌≡◌, ◌≢◌, ◌+◌, ◌≤◌, true, false, List, [], length, sym, ap, subst, ◌∙◌, arith}
use lib.ListN.{length-map}
use Rattle.std.specs.Prelude.{Contains}
use Rattle.std.specs.List.{AllByRecursion}
use Rattle.std.proofs.lemmas.Bool.{true≢false}
use Rattle.plain_laws.specs.Members.{all_at, all_from, in_map}
use Rattle.task_order.specs.declared.start.Start.{Start}
use Rattle.task_order.specs.declared.task.Task.{Task}
use Rattle.task_order.specs.Laws.{PutAllAddsEach}
use Rattle.rw_sets.specs.Accesses.{IsWithin}
use Rattle.cell_store.specs.Home.{IsHome}
use Rattle.cell_store.specs.Values.{homes}
use Rattle.output_log.specs.Entries.{Entry, IsInKeyOrder}
use Rattle.kdg_graph.specs.Node.{Node}
use Rattle.kdg_graph.specs.Nodes.{tasks_of}
use Rattle.app_laws.specs.Applications.{Application, AreFitStarts, IsFitTask, IsInRange, set_in}
use Rattle.app_laws.specs.Execution.{first_from}
use Rattle.app_laws.specs.Order.{Pairwise, is_prefix}
use Rattle.app_laws.specs.TaskLaws.{length-first_from}
use Rattle.commuting.specs.Clear.{IsReady}
use Rattle.commuting.specs.States.{state_of}
use Rattle.run_laws.specs.Basis.{Basis}
use Rattle.run_laws.specs.Answers.{AreFirstNodes}
use Rattle.run_laws.specs.Laws.{BeginningsAreSound}
use Rattle.run_laws.specs.Progress.{Progress, whole_state}
use Rattle.run_laws.specs.Sound.{KeysAndCounts, IsWhole, Covers, HasJob, IsSound, is_unblocked}
use Rattle.run_laws.proofs.Marks.{no_entries_in_order}

-- as many nodes as first tasks
pub as_many_first_nodes : PutAllAddsEach → {V : Type 0} (app : Application V) (cells : List V) (first : List Start) (nodes : List Node) → AreFirstNodes app cells first nodes → length nodes ≡ length first
as_many_first_nodes adds_each app cells first nodes are =
    let mapped = length-map nodes (λ (n : Node). n.task) in
    let tasks = ap length are.tasks in
    let put = adds_each (first_from 0 first) [] in
    let all = length-first_from 0 first in
    omega (arith, mapped, tasks, put, all)

module _ {V : Type 0} {app : Application V} (basis : Basis app) (cells : List V) (first : List Start) (progress : Progress V) (fit_cells : app.is_fit_cells cells) (fit : AreFitStarts app first)
    (are : AreFirstNodes app cells first progress.nodes) (cells_are : progress.cells ≡ homes cells) (nothing_logged : progress.log ≡ []) where
  ready : IsReady app (whole_state progress cells)
  ready = subst (λ tasks. IsReady app (state_of cells tasks)) (sym are.tasks) (basis.starts_ready cells first fit_cells fit)

  none_runs : (node : Node) → Contains progress.nodes node → node.running ≡ true → ⊥
  none_runs node has running = true≢false (sym running ∙ all_at (λ (n : Node). n.running ≡ false) progress.nodes node are.none_runs has)

  as_many_nodes : length progress.nodes ≡ length first
  as_many_nodes = as_many_first_nodes basis.lower.put_all_length app cells first progress.nodes are

  whole : IsWhole app progress.cells [] cells
  whole = subst (λ held. IsWhole app held [] cells) (sym cells_are) (record {
    home = basis.cells.agreement.of_homes cells;
    away = λ loc inside. ((λ out. absurd (subst IsHome out (basis.cells.values.all_home cells loc inside))), λ never. absurd (true≢false (sym never)));
    bundles = tt;
  })

  covers : (node : Node) → Contains progress.nodes node → Covers app progress.cells cells node
  covers node has =
      let is = all_at (λ (n : Node). n.set ≡ set_in app cells n.task) progress.nodes node are.sets has in
      let fit_task = all_at (IsFitTask app) (tasks_of progress.nodes) node.task ready.tasks (in_map (λ (n : Node). n.task) progress.nodes node has) in
      record {
        in_range = subst (IsInRange app) (sym is) (basis.lawful.sets_are_in_range node.task cells fit_cells fit_task);
        within = subst (λ set. IsWithin (set_in app cells node.task) set) (sym is) (basis.lower.reflexive (set_in app cells node.task));
        running = λ _. is;
        home = λ _. is;
      }

  module _ (created : progress.created ≡ progress.ended + length first) (within : progress.created ≤ progress.limit) where
    keys_and_counts : KeysAndCounts app progress
    keys_and_counts =
        let nodes = as_many_nodes in
        let logged = ap length nothing_logged in
        record {
          graph = are.graph;
          log_ordered = subst IsInKeyOrder (sym nothing_logged) no_entries_in_order;
          log_differs = subst (λ log. Pairwise (λ (entry other : Entry). entry.0.path ≢ other.0.path) log) (sym nothing_logged) tt;
          unlogged = subst (λ log. AllByRecursion (λ (task : Task). AllByRecursion (λ (entry : Entry). is_prefix task.key.path entry.0.path ≡ false) log) (tasks_of progress.nodes)) (sym nothing_logged)
              (all_from (λ (task : Task). AllByRecursion (λ (entry : Entry). is_prefix task.key.path entry.0.path ≡ false) []) (tasks_of progress.nodes) (λ _ _. tt));
          created = omega (arith, nodes, created);
          within = within;
          logged = omega (arith, logged);
        }

    -- where all cells are home and nothing is logged, first tasks make an execution that is sound
    pub first_nodes_are_sound : IsSound app progress [] cells
    first_nodes_are_sound = record {
      keys_and_counts = keys_and_counts;
      outs_match = record {
        named = tt;
        all = all_from (λ (n : Node). n.running ≡ true → HasJob app [] n) progress.nodes (λ node has running. absurd (none_runs node has running));
        own = tt;
      };
      whole = whole;
      ready = ready;
      recorded_covers = all_from (Covers app progress.cells cells) progress.nodes covers;
      running_unblocked = all_from (λ (n : Node). n.running ≡ true → is_unblocked app progress.nodes n ≡ true) progress.nodes (λ node has running. absurd (none_runs node has running));
    }

pub beginnings_are_sound : {V : Type 0} {app : Application V} → Basis app → BeginningsAreSound app
beginnings_are_sound basis cells first budget progress fit_cells fit few begun =
    let are : AreFirstNodes _ cells first progress.nodes = record { graph = begun.graph; tasks = begun.tasks_are; sets = begun.sets_are; none_runs = begun.none_runs } in
    let created = begun.created_are in
    let ended = begun.none_ended in
    let limit = begun.limit_is in
    first_nodes_are_sound basis cells first progress fit_cells fit are begun.cells_are begun.nothing_logged (omega (arith, created, ended)) (omega (arith, created, limit, few))
