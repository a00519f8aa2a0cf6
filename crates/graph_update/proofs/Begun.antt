-- An execution that has just begun.
use Rattle.std.proofs.Common.{◌≡◌, ℕ, ◌+◌, ◌≤◌, List, [], None, length, refl, subst, arith}
use Rattle.task_order.specs.declared.start.Start.{Start}
use Rattle.cell_store.specs.declared.cell.Cell.{Cell}
use Rattle.cell_store.specs.Values.{homes}
use Rattle.output_log.specs.Entries.{Entry}
use Rattle.kdg_graph.specs.Node.{Node}
use Rattle.app_laws.specs.Applications.{Application, AreFitStarts}
use Rattle.run_laws.specs.Answers.{IsBegun, AreFirstNodes}
use Rattle.graph_update.specs.Engine.{HaveFixedSets, IsKept, most_tasks}
use Rattle.run_laws.specs.Laws.{BeginningsAreSound}
use Rattle.run_laws.specs.Progress.{Progress}
use Rattle.run_laws.specs.Renaming.{FirstNodesAreAsMany}
use Rattle.run_laws.specs.Sound.{IsSound}
use Rattle.graph_update.proofs.FixedSets.{first_are_fixed}

module _ {V : Type 0} (app : Application V) (cells values : List V) (first starts : List Start) (budget : ℕ) (store : List (Cell V)) (nodes : List Node) (log : List Entry)
    (same : values ≡ cells) (listed : starts ≡ first) (home : store ≡ homes cells) (are : AreFirstNodes app values starts nodes) (empty : log ≡ []) (as_many : FirstNodesAreAsMany app) where
  abbrev fresh : Progress V
  fresh = record { cells = store; nodes = nodes; log = log; created = 0 + length nodes; ended = 0; limit = budget; over = None }

  of_cells : AreFirstNodes app cells first nodes
  of_cells = subst (λ held. AreFirstNodes app held first nodes) same (subst (λ (held : List Start). AreFirstNodes app values held nodes) listed are)

  many : 0 + length nodes ≡ length first
  many = let same = as_many cells first nodes of_cells in omega (arith, same)

  pub begun : IsBegun app cells first budget fresh
  begun = record {
    cells_are = home;
    graph = of_cells.graph;
    tasks_are = of_cells.tasks;
    sets_are = of_cells.sets;
    none_runs = of_cells.none_runs;
    nothing_logged = empty;
    created_are = many;
    none_ended = refl;
    limit_is = refl;
    not_over = refl;
  }

  module _ (laws : BeginningsAreSound app) (fit_cells : app.is_fit_cells cells) (fit : AreFitStarts app first) (few : length first ≤ budget) where
    pub begun_sound : IsSound app fresh [] cells
    begun_sound = laws cells first budget fresh fit_cells fit few begun

    pub begun_kept : budget ≤ most_tasks → IsKept app fresh
    begun_kept limited = record { jobs = []; values = cells; sound = begun_sound; limited = limited }

    pub begun_fixed : HaveFixedSets app nodes
    begun_fixed = first_are_fixed app cells fit_cells nodes begun_sound.ready.tasks of_cells.sets
