-- What holds of a sound execution while nothing is running, and of clear nodes at any moment.
use Rattle.std.specs.Prelude.{◌≡◌, ◌≢◌, ◌↔◌, true, false, List, Contains, [], ◌∷◌, map}
use Rattle.std.specs.List.{AllByRecursion}
use Rattle.cell_store.specs.declared.cell.Cell.TheVariants.{Home}
use Rattle.cell_store.specs.Values.{values_of}
use Rattle.kdg_graph.specs.declared.node_id.NodeId.{NodeId}
use Rattle.kdg_graph.specs.Node.{Node}
use Rattle.app_laws.specs.Applications.{Application, set_in}
use Rattle.run_laws.specs.Acting.{HasActed}
use Rattle.run_laws.specs.Jobs.{Job}
use Rattle.run_laws.specs.Events.{is_clear}
use Rattle.run_laws.specs.Laws.{Event, Moment, IsSoundMoment, Reaches}
use Rattle.run_laws.specs.Progress.{Progress}
use Rattle.run_laws.specs.Sound.{IsSound}

-- no node is running
abbrev pub NoneRuns : List Node → Type 0
NoneRuns nodes = AllByRecursion (λ node. node.running ≡ false) nodes

module _ {V : Type 0} (app : Application V) where
  -- ---- while nothing is running

  -- there is no job exactly where no node is running
  abbrev pub NoJobsWhereNoneRuns : Type 0
  NoJobsWhereNoneRuns = (progress : Progress V) (jobs : List (Job V)) (values : List V) → IsSound app progress jobs values → (jobs ≡ []) ↔ NoneRuns progress.nodes

  -- where none is running, an execution is sound with no jobs, and the values of its cells are those of the whole ones
  abbrev pub IdleIsSound : Type 0
  IdleIsSound = (progress : Progress V) (jobs : List (Job V)) (values : List V) → IsSound app progress jobs values → NoneRuns progress.nodes → IsSound app progress [] (values_of progress.cells)

  -- all cells are home, each recorded set is the declared one, and the least node is clear
  pub record IsAtRest (progress : Progress V) (values : List V) : Type 0 where
    pub cells : progress.cells ≡ map Home values
    pub sets : AllByRecursion (λ node. node.set ≡ set_in app values node.task) progress.nodes
    pub least : (node : Node) (others : List Node) → progress.nodes ≡ node ∷ others → is_clear app progress.nodes node ≡ true

  abbrev pub NoJobsAreRest : Type 0
  NoJobsAreRest = (progress : Progress V) (values : List V) → IsSound app progress [] values → IsAtRest progress values

  -- ---- clear nodes

  -- the node is there, and it is clear
  abbrev pub IsClearNode : List Node → Node → Type 0
  IsClearNode nodes node = Contains nodes node × (is_clear app nodes node ≡ true)

  -- the event is a claim of the node
  abbrev pub ClaimsNode : Node → Event V → Type 0
  ClaimsNode node (Event.claims pick job) = job.task.key ≡ node.task.key
  ClaimsNode node (Event.finishes done) = ⊥
  ClaimsNode node (Event.exceeds done) = ⊥
  ClaimsNode node Event.drains = ⊥
  ClaimsNode node Event.gives_up = ⊥

  -- until it is claimed, whatever else happens
  abbrev pub ClearNodesStayClear : Type 0
  ClearNodesStayClear = (events : List (Event V)) (old now : Moment V) (node : Node) → IsSoundMoment app old → Reaches app events old now →
      AllByRecursion (λ event. ¬ ClaimsNode node event) events → IsClearNode old.progress.nodes node → IsClearNode now.progress.nodes node

  -- and so where the task of another node acts
  abbrev pub ActsLeaveClear : Type 0
  ActsLeaveClear = (old now : Progress V) (id : NodeId) (node : Node) (jobs : List (Job V)) (values : List V) → IsSound app old jobs values → HasActed app old id now →
      node.id ≢ id → IsClearNode old.nodes node → IsClearNode now.nodes node
