-- What the laws of this crate stand on.
use Rattle.task_order.specs.Laws as tasks
use Rattle.rw_sets.specs.Laws as sets
use Rattle.output_log.specs.Laws as logs
use Rattle.cell_store.specs.Laws as cells
use Rattle.kdg_graph.specs.Laws as nodes
use Rattle.app_laws.specs.Applications.{Application, IsLawful}
use Rattle.commuting.specs.Standing.{StartsAreReady}

-- what the crates below promise of keys, lists of tasks, sets, logs and nodes
pub record LowerLaws : Type 0 where
  pub irreflexive : tasks.EarlierIsIrreflexive
  pub transitive : tasks.EarlierIsTransitive
  pub connected : tasks.EarlierIsConnected
  pub equal : tasks.EqualIsReflexive
  pub put_all_length : tasks.PutAllAddsEach
  pub turned : sets.ConflictsAreMutual
  pub grows : sets.ConflictsGrow
  pub decided : sets.ConflictsAreDecided
  pub independent : sets.IndependentWithoutConflict
  pub reflexive : sets.WithinIsReflexive
  pub parts_in_order : logs.PartsKeepOrder
  pub have_ids : nodes.NodesHaveIds
  pub have_keys : nodes.NodesHaveKeys
  pub keys_find : nodes.KeysFindNodes
  pub starts_keep_tasks : nodes.StartsKeepTasks

-- what holds of cells
pub record CellLaws (V : Type 0) : Type 0 where
  pub determine : cells.LookupsDetermineCells V
  pub taken : cells.TakenByLocation V
  pub parts : cells.PartsByLocation V
  pub values : cells.HomesAreValues V
  pub agreement : cells.AgreementLasts V
  pub changes : cells.ValueChanges V

-- these, the laws of an application, and what holds of its first tasks
pub record Basis {V : Type 0} (app : Application V) : Type 0 where
  pub lawful : IsLawful app
  pub lower : LowerLaws
  pub cells : CellLaws V
  pub starts_ready : StartsAreReady app
