-- What a claim, the end of a task, a drain and a giving up make of an execution.
use Rattle.std.specs.Prelude.{◌≡◌, ℕ, suc, ◌+◌, ◌%◌, ◌<◌, List, [], ◌∷◌, length, map, Some, Bool, not, ◌&&◌, slice_get, filter, Contains}
use Rattle.std.specs.Option.{option_or}
use Rattle.task_order.specs.declared.key.Key.{Key}
use Rattle.task_order.specs.Key.{at_key, child_key}
use Rattle.rw_sets.specs.Accesses.{Accesses, conflicts_with, merged}
use Rattle.cell_store.specs.declared.cell.Cell.{Cell}
use Rattle.cell_store.specs.Cells.{cells_given, cells_taken, part_of}
use Rattle.kdg_graph.specs.declared.node_id.NodeId.{NodeId}
use Rattle.kdg_graph.specs.declared.change.Fresh.{Fresh}
use Rattle.kdg_graph.specs.declared.change.SetChange.{SetChange}
use Rattle.kdg_graph.specs.Node.{Node}
use Rattle.kdg_graph.specs.Nodes.{IsGraph, ids_of, node_with_key, later_than, started}
use Rattle.kdg_graph.specs.Rewrite.{IsRewritten}
use Rattle.output_log.specs.Entries.{Entry, entries_before, entries_from, with_entry}
use Rattle.app_laws.specs.declared.app.SetAnswer.{SetAnswer}
use Rattle.app_laws.specs.declared.app.SetAnswer.TheVariants as answer
use Rattle.app_laws.specs.declared.child.Child.{Child}
use Rattle.app_laws.specs.Applications.{Application}
use Rattle.crew.specs.declared.answers.OverCause.{OverCause}
use Rattle.crew.specs.declared.answers.OverCause.TheVariants as cause
use Rattle.run_laws.specs.Jobs.{Done, Job}
use Rattle.run_laws.specs.Progress.{Progress}
use Rattle.run_laws.specs.Sound.{is_unblocked}

-- the children of a task as fresh tasks, numbered from a number on, with the sets that were handed over
abbrev pub fresh_from : Key → ℕ → List Child → List Fresh
fresh_from parent number [] = []
fresh_from parent number (child ∷ children) =
    record { task = record { key = child_key parent number child.prio; body = child.body }; set = child.set } ∷ fresh_from parent (suc number) children

module _ {V : Type 0} (app : Application V) where
  -- a clear node is not running, no earlier node's recorded set conflicts with its own, and its task is safe against the earlier ones
  abbrev pub is_clear : List Node → Node → Bool
  is_clear nodes node = not node.running && is_unblocked app nodes node

  -- the clear nodes, in key order
  abbrev pub clear_nodes : List Node → List Node
  clear_nodes nodes = filter (is_clear nodes) nodes

  -- the id is that of a clear node
  abbrev pub IsOfClear : List Node → NodeId → Type 0
  IsOfClear nodes id = Contains (ids_of (clear_nodes nodes)) id

  -- a claim with a pick: of the clear nodes the one at the pick's remainder is marked running, and its bundle is taken
  pub record IsClaimed (old : Progress V) (pick : ℕ) (now : Progress V) (job : Job V) : Type 0 where
    pub node : Node
    pub chosen : slice_get (clear_nodes old.nodes) (pick % length (clear_nodes old.nodes)) ≡ Some node
    pub job_is : job ≡ record { node = node.id; task = node.task; bundle = part_of old.cells node.set }
    pub after : now ≡ record old { nodes = started node.id old.nodes; cells = cells_taken old.cells node.set }

  -- the set of a later task in conflict with one that ended: its declared set where finding it out needs no cell that is away,
  -- else its recorded set merged with that of the ended task
  abbrev pub renewed : Accesses → Accesses → SetAnswer → Accesses
  renewed ended recorded (answer.Known set) = set
  renewed ended recorded (answer.Out loc) = merged recorded ended

  -- the new recorded sets of the later nodes whose recorded sets conflict with that of an ended node, over the cells after it
  abbrev pub renewals : List (Cell V) → List Node → Node → List SetChange
  renewals cells nodes ended = map
      (λ other. record { node = other.id; set = renewed ended.set other.set (app.walk other.task.body cells) })
      (filter (λ other. conflicts_with ended.set other.set) (later_than ended.task.key nodes))

  -- The end of a task: its written values are home, its node is gone, its children are nodes, the later nodes in conflict with
  -- it have new recorded sets, its text is logged, and the counts have risen.
  pub record IsFinished (old : Progress V) (done : Done V) (now : Progress V) : Type 0 where
    pub graph : IsGraph now.nodes
    pub node : Node
    pub found : node_with_key old.nodes done.task.key ≡ Some node
    pub nodes : IsRewritten old.nodes node.id (renewals (cells_given old.cells done.effect.bundle) old.nodes node)
        (fresh_from done.task.key 0 done.effect.children) now.nodes
    pub after : now ≡ record old {
      cells = cells_given old.cells done.effect.bundle;
      nodes = now.nodes;
      log = with_entry done.task.key done.effect.text old.log;
      created = old.created + length done.effect.children;
      ended = suc old.ended;
    }

  -- whether the children of a task are more than may be created
  abbrev pub IsOverLimit : Progress V → Done V → Type 0
  IsOverLimit progress done = progress.limit < progress.created + length done.effect.children

  -- the mark that stands, or else a new one
  abbrev pub marked : Progress V → OverCause → Progress V
  marked progress over = record progress { over = option_or progress.over (Some over) }

  -- what is left by a finish that is over the limit: nothing but the mark
  abbrev pub budget_marked : Progress V → Done V → Progress V
  budget_marked progress done = marked progress (cause.Budget (progress.created + length done.effect.children) progress.limit)

  -- the entries of the log that are earlier than every node
  abbrev pub drainable : List Node → List Entry → List Entry
  drainable [] log = log
  drainable (least ∷ nodes) log = entries_before (at_key least.task.key) log

  -- the entries that are not
  abbrev pub undrainable : List Node → List Entry → List Entry
  undrainable [] log = []
  undrainable (least ∷ nodes) log = entries_from (at_key least.task.key) log

  -- a drain: the entries that are earlier than every node leave the log
  abbrev pub drained : Progress V → Progress V
  drained progress = record progress { log = undrainable progress.nodes progress.log }
