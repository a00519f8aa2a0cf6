-- What the laws of the end of a task stand on.
use Rattle.task_order.specs.Key.{IsExactOrder}
use Rattle.task_order.specs.Laws as tasks
use Rattle.rw_sets.specs.Laws as sets
use Rattle.cell_store.specs.Laws as cells
use Rattle.output_log.specs.Laws as logs
use Rattle.kdg_graph.specs.Laws as graph
use Rattle.app_laws.specs.Applications.{Application, IsLawful}
use Rattle.app_laws.specs.Family as family
use Rattle.commuting.specs.Independent.{StaysReady, IndependentTasksLeaveAlone, ClearTasksStayClear}

pub record FinishBasis {V : Type 0} (app : Application V) : Type 0 where
  pub lawful : IsLawful app
  pub stays_ready : StaysReady app
  pub left_alone : IndependentTasksLeaveAlone app
  pub stay_clear : ClearTasksStayClear app
  pub have_ids : graph.NodesHaveIds
  pub have_keys : graph.NodesHaveKeys
  pub keys_find : graph.KeysFindNodes
  pub ids_find : graph.IdsFindNodes
  pub keeps : graph.RewritesKeepNodes
  pub no_other : graph.RewritesAddNoOther
  pub replaces : graph.RewritesReplaceTasks
  pub exact : IsExactOrder
  pub connected : tasks.EarlierIsConnected
  pub adds_each : tasks.PutAllAddsEach
  pub put_without : tasks.PutRestoresWithout
  pub puts_add_one : tasks.PutsAddOne
  pub entries_in_order : logs.PutsKeepOrder
  pub earlier_first : logs.EarlierEntriesComeFirst
  pub children_apart : family.ChildrenAreApart
  pub siblings_apart : family.SiblingsAreApart
  pub children_new : family.ChildrenAreNew
  pub children_go_on : family.ChildrenGoOn
  pub independent : sets.IndependentWithoutConflict
  pub independence_turned : sets.IndependenceIsMutual
  pub turned : sets.ConflictsAreMutual
  pub decided : sets.ConflictsAreDecided
  pub by_parts : sets.MergesConflictByParts
  pub grows : sets.ConflictsGrow
  pub within_itself : sets.WithinIsReflexive
  pub within_all : sets.WithinIsTransitive
  pub within_by_members : sets.WithinByMembers
  pub merges_join : sets.MergesJoinLookups
  pub merges_hold : sets.MergesHoldBoth
  pub merges_least : sets.MergesAreLeast
  pub merges_ascend : sets.MergesAscend
  pub given : cells.GivenByLocation V
  pub parts : cells.PartsByLocation V
  pub takes_back : cells.TakesBackWhatWasGiven V
  pub regains : cells.RegainsWhatWasGiven V
  pub giving_forgets : cells.GivingForgetsTaking V
  pub all_homes : cells.HomesAreValues V
  pub agreement : cells.AgreementLasts V
  pub changes : cells.ValueChanges V
