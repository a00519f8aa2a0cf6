-- A clear node that is named by its id is claimed, and its task is performed and ended.
use Rattle.std.proofs.Common.{◌≡◌, ℕ, ◌+◌, ◌<◌, ◌≤◌, true, false, cond, List, [], ◌∷◌, Option, Some, None, length, refl, sym, ap, subst, ◌∙◌, arith, eq-eqb, inl, inr}
use Rattle.std.specs.Prelude.{Contains, IsSome}
use Rattle.std.specs.List.{filter}
use Rattle.std.specs.Option.{option_map, option_or}
use lib.ListN.{length-map}
use Rattle.std.specs.Ordering.{is_lt}
use Rattle.std.proofs.lemmas.Option.{same_Some}
use Rattle.plain_laws.specs.Members.{found_is_there, from_filter}
use Rattle.task_order.specs.declared.key.Key.{Key}
use Rattle.task_order.specs.declared.task.Task.{Task}
use Rattle.task_order.specs.Key.{key_cmp}
use Rattle.rw_sets.specs.Accesses.{Accesses, conflicts_with}
use Rattle.cell_store.specs.declared.cell.Cell.{Cell}
use Rattle.cell_store.specs.Cells.{AreHome, cells_given, cells_taken, part_of}
use Rattle.cell_store.specs.Part.{Part}
use Rattle.kdg_graph.specs.declared.node_id.NodeId.{NodeId}
use Rattle.kdg_graph.specs.Edges.{laters_of}
use Rattle.kdg_graph.specs.Node.{Node}
use Rattle.kdg_graph.specs.Nodes.{HasNode, IsGraph, ids_of, is_at, later_than, node_at, set_at, started, task_at}
use Rattle.app_laws.specs.declared.child.Child.{Child}
use Rattle.app_laws.specs.Applications.{Application, IsDoneAtHome}
use Rattle.crew.specs.declared.answers.OverCause.{OverCause}
use Rattle.crew.specs.declared.answers.OverCause.TheVariants as cause
use Rattle.run_laws.specs.Jobs.{Done, Job}
use Rattle.run_laws.specs.Acting.{HasActed, IsActFault, IsPlayed, IsStarted}
use Rattle.graph_update.specs.AtHome.{IsBackHome, IsEndFault, done_of}
use Rattle.graph_update.specs.Basis.{Basis}
use Rattle.run_laws.specs.Laws.{IsDone}
use Rattle.graph_update.specs.declared.ready.Ready.{Ready}
use Rattle.graph_update.specs.Engine.{AreReady, IsKept, EngineState}
use Rattle.graph_update.specs.Ready.{IsLeftBy}
use Rattle.run_laws.specs.Events.{IsOfClear, IsFinished, IsOverLimit, clear_nodes, is_clear}
use Rattle.crew.specs.Jobs.{MayRun, IsPerformed}
use Rattle.run_laws.specs.Progress.{Progress}
use Rattle.run_laws.specs.Sound.{IsSound}
use Rattle.graph_update.proofs.ClearClaims.{claimed, clear_after, has_node, may_run, picked_home, sound_after}
use Rattle.graph_update.proofs.Picked.{IsPicked, picked_at}
use Rattle.graph_update.proofs.ReadyIds.{left_are_ready, some_are_ready}

abbrev start : NodeId → Node → Node
start id node = cond (is_at id node) (record node { running = true }) node

-- ---- the later nodes

abbrev laters : Accesses → Key → List Node → List NodeId
laters set key nodes = ids_of (filter (λ other. conflicts_with set other.set) (later_than key nodes))

-- whether it is running makes no difference to a node
same_head : (set : Accesses) (key : Key) (node now : Node) → now ≡ record node { running = now.running } → (nodes was : List Node) → laters set key nodes ≡ laters set key was → laters set key (now ∷ nodes) ≡ laters set key (node ∷ was)
same_head set key node now only nodes was rest =
    let clashes = λ (other : Node). conflicts_with set other.set in
    ap (λ (first : Node). laters set key (first ∷ nodes)) only ∙ elim (is_lt (key_cmp key node.task.key)) as (λ later. let first : Node = record node { running = now.running } in
    ids_of (filter clashes (cond later (first ∷ later_than key nodes) (later_than key nodes))) ≡ ids_of (filter clashes (cond later (node ∷ later_than key was) (later_than key was)))) [
      | true ↦ elim (conflicts_with set node.set) as (λ clash. let first : Node = record node { running = now.running } in
          ids_of (cond clash (first ∷ filter clashes (later_than key nodes)) (filter clashes (later_than key nodes))) ≡ ids_of (cond clash (node ∷ filter clashes (later_than key was)) (filter clashes (later_than key was)))) [
            | true ↦ ap (λ ids. node.id ∷ ids) rest
            | false ↦ rest
          ]
      | false ↦ rest
    ]

only_running : (id : NodeId) (node : Node) → start id node ≡ record node { running = (start id node).running }
only_running id node = elim (is_at id node) as (λ test. let now : Node = cond test (record node { running = true }) node in now ≡ record node { running = now.running }) [ true ↦ refl | false ↦ refl ]

laters_started : (set : Accesses) (key : Key) (id : NodeId) (nodes : List Node) → laters set key (started id nodes) ≡ laters set key nodes
laters_started set key id [] = refl
laters_started set key id (node ∷ nodes) = same_head set key node (start id node) (only_running id node) (started id nodes) nodes (laters_started set key id nodes)

-- ---- a task that was performed where its cells are

module _ {V : Type 0} where
  -- the execution while its cells are away: the node runs, the cells that its set writes are out, and as many tasks were created as
  -- have ended and are pending
  abbrev pub midway_of : Progress V → Accesses → List Node → Progress V
  midway_of old set nodes = record old { nodes = nodes; cells = cells_taken old.cells set; created = old.ended + length nodes }

module _ {V : Type 0} (app : Application V) where
  -- The task of the clear node of an id was performed, with these children and this text: its node is marked as running, and its
  -- new values are home already. So it stands to how it would be with them away, and to what may follow.
  pub record IsMidway (old : Progress V) (id : NodeId) (set : Accesses) (nodes : List Node) (home : List (Cell V)) (children : List Child) (text : List ℕ) : Type 0 where
    pub task : Task
    pub bundle : Part V
    pub there : HasNode nodes id
    pub kept : (over : Option OverCause) → IsKept app (record (midway_of old set nodes) { over = over })
    pub is_done : IsDone app (midway_of old set nodes) (done_of id task bundle children text)
    pub given : home ≡ cells_given (cells_taken old.cells set) bundle
    pub acted : ¬ IsOverLimit app (midway_of old set nodes) (done_of id task bundle children text) → (now : Progress V) → IsFinished app (midway_of old set nodes) (done_of id task bundle children text) now → HasActed app old id now
    pub fault : old.over ≡ None → (why : OverCause) → IsEndFault (old.ended + length nodes + length children) old.limit why
        → IsActFault app old id (record (midway_of old set nodes) { over = Some why }) why
    pub steps : (first last : ℕ) → ((of : Node) → node_at nodes id ≡ Some of → last ≤ first + length (laters_of nodes of)) → (of : Node) → node_at old.nodes id ≡ Some of → last ≤ first + length (laters_of old.nodes of)

  -- its new values are home
  abbrev pub back_of : {old : Progress V} {id : NodeId} {set : Accesses} {nodes : List Node} {home : List (Cell V)} {children : List Child} {text : List ℕ}
      → IsMidway old id set nodes home children text → IsBackHome app (record (midway_of old set nodes) { cells = home }) id children text
  back_of {old} {id} {set} midway = record { away = cells_taken old.cells set; task = midway.task; bundle = midway.bundle; is_done = midway.is_done; given = midway.given }

-- ---- the claim

module _ {V : Type 0} {app : Application V} (basis : Basis app) (old : Progress V) (kept : IsKept app old) (id : NodeId) (clear : IsOfClear app old.nodes id) where
  picked : IsPicked app old.nodes clear.0 id
  picked = picked_at app old.nodes id clear

  pub is_node : HasNode old.nodes id
  is_node = has_node basis old kept.jobs kept.values kept.sound clear.0 id picked

  pub is_home : (set : Accesses) → set_at old.nodes id ≡ Some set → AreHome old.cells set
  is_home set found = picked_home basis old kept.jobs kept.values kept.sound clear.0 id picked set found

  module _ (task : Task) (task_is : task_at old.nodes id ≡ Some task) (set : Accesses) (set_is : set_at old.nodes id ≡ Some set) where
    abbrev job : Job V
    job = record { node = id; task = task; bundle = part_of old.cells set }

    pub may_act : MayRun app job
    may_act = may_run basis old kept clear.0 id picked task task set (part_of old.cells set) (cells_taken old.cells set) (started id old.nodes) task_is refl set_is refl refl refl

    -- ---- after the claim

    module _ (nodes : List Node) (nodes_are : nodes ≡ started id old.nodes) where
      abbrev midway : Progress V
      midway = midway_of old set nodes

      graph : IsGraph old.nodes
      graph = kept.sound.keys_and_counts.graph

      same_count : old.ended + length nodes ≡ old.created
      same_count = ap (λ count. old.ended + count) (ap length nodes_are ∙ length-map old.nodes (start id)) ∙ sym kept.sound.keys_and_counts.created

      is_started : IsStarted app old id midway job
      is_started = record {
        pick = clear.0;
        claimed = claimed basis old kept clear.0 id picked task task set (part_of old.cells set) (cells_taken old.cells set) nodes task_is refl set_is refl refl nodes_are;
        node = refl;
      }

      -- the clear nodes that are known after it
      pub ready_midway : (ready left : Ready) → AreReady app old.nodes ready → IsLeftBy id ready left → AreReady app nodes left
      ready_midway ready left are (inl known) = left_are_ready app old.nodes nodes id 0 ready left graph
          (clear_after basis old kept clear.0 id picked task task set (part_of old.cells set) (cells_taken old.cells set) nodes task_is refl set_is refl refl nodes_are)
          are known.0 known.1 known.2
      ready_midway ready left are (inr none) = some_are_ready app nodes left [] none.0 none.1 tt tt

      sound_midway : IsSound app midway (job ∷ kept.jobs) kept.values
      sound_midway = sound_after basis old kept clear.0 id picked task task set (part_of old.cells set) (cells_taken old.cells set) nodes task_is refl set_is refl refl nodes_are kept.jobs kept.values kept.sound

      kept_midway : (over : Option OverCause) → IsKept app (record midway { over = over })
      kept_midway over = record { jobs = job ∷ kept.jobs; values = kept.values; sound = basis.marks.any_mark midway over (job ∷ kept.jobs) kept.values sound_midway; limited = kept.limited }

      abbrev node : Node
      node = picked.node

      abbrev running : Node
      running = record node { running = true }

      there : Contains old.nodes node
      there = (from_filter (is_clear app old.nodes) old.nodes node (found_is_there (clear_nodes app old.nodes) _ node picked.chosen)).0

      before : node_at old.nodes id ≡ Some node
      before = ap (node_at old.nodes) (sym picked.id_is) ∙ basis.lower.have_ids old.nodes node graph there

      started_is : nodes ≡ started node.id old.nodes
      started_is = nodes_are ∙ ap (λ (one : NodeId). started one old.nodes) (sym picked.id_is)

      after : node_at nodes id ≡ Some running
      after =
          let own : is_at id node ≡ true = eq-eqb node.id.at id.at (ap (λ (one : NodeId). one.at) picked.id_is) in
          ap (λ (nodes : List Node). node_at nodes id) nodes_are ∙ basis.starts_mark id old.nodes id ∙ ap (option_map (start id)) before
          ∙ ap (λ test. Some (cond test running node)) own

      -- the later nodes in conflict are those of before
      steps_before : (first last : ℕ) → ((of : Node) → node_at nodes id ≡ Some of → last ≤ first + length (laters_of nodes of)) → (of : Node) → node_at old.nodes id ≡ Some of → last ≤ first + length (laters_of old.nodes of)
      steps_before first last each of is =
          let same : laters_of nodes running ≡ laters_of old.nodes node = ap (λ (nodes : List Node). laters_of nodes running) started_is ∙ laters_started node.set node.task.key node.id old.nodes in
          subst (λ (n : Node). last ≤ first + length (laters_of old.nodes n)) (same_Some node of (sym before ∙ is))
          (subst (λ (ids : List NodeId). last ≤ first + length ids) same (each running after))

      -- ---- its task was performed

      module _ (children : List Child) (text : List ℕ) (home : List (Cell V)) (made : IsDoneAtHome app task set old.cells children text home) where
        abbrev done : Done V
        done = done_of id task made.bundle children text

        performed : (others : List (Job V)) → IsPerformed app (job ∷ others) done job others
        performed others = record { before = []; after = others; there = refl; others_are = refl; node = refl; task = refl; effect = made.effect }

        played : IsPlayed app old id midway done
        played = record { job = job; started = is_started; performed = performed [] }

        why_stuck : old.over ≡ None → (why : OverCause) → IsEndFault (old.ended + length nodes + length children) old.limit why
            → IsActFault app old id (record midway { over = Some why }) why
        why_stuck not_over (cause.Budget asked most) (asked_is, most_is, above) = record {
          midway = midway;
          done = done;
          played = played;
          above = above;
          created_is = asked_is;
          limit_is = most_is;
          after = ap (λ (over : Option OverCause). let now : Progress V = record midway { over = option_or over (Some (cause.Budget asked most)) } in now) (sym not_over)
              ∙ ap (λ created. let now : Progress V = record midway { over = option_or old.over (Some (cause.Budget created most)) } in now) asked_is
              ∙ ap (λ limit. let now : Progress V = record midway { over = option_or old.over (Some (cause.Budget (midway.created + length children) limit)) } in now) most_is;
        }
        why_stuck not_over cause.NoRoom below = inr (record {
          midway = midway;
          done = done;
          played = played;
          within = λ above. let is_above : old.limit < old.ended + length nodes + length children = above in omega (arith, below, is_above);
          after = ap (λ (over : Option OverCause). let now : Progress V = record midway { over = option_or over (Some cause.NoRoom) } in now) (sym not_over);
        })

        pub is_midway : IsMidway app old id set nodes home children text
        is_midway = record {
          task = task;
          bundle = made.bundle;
          there = subst IsSome (sym after) refl;
          kept = kept_midway;
          is_done = record { jobs = job ∷ kept.jobs; values = kept.values; sound = sound_midway; job = job; others = kept.jobs; performed = performed kept.jobs };
          given = made.given;
          acted = λ within now finished. record { midway = midway; done = done; played = played; within = within; finished = finished };
          fault = why_stuck;
          steps = steps_before;
        }

-- what is said of an engine is said of its parts, and the other way round
module _ {A V : Type 0} (meaning : A → Application V) (inside engine : EngineState A V) (same : inside ≡ engine) (id : NodeId) where
  pub inside_clear : IsOfClear (meaning engine.app) engine.progress.nodes id → IsOfClear (meaning inside.app) inside.progress.nodes id
  inside_clear clear = subst (λ (state : EngineState A V). IsOfClear (meaning state.app) state.progress.nodes id) (sym same) clear

  pub engine_acted : (now : Progress V) → HasActed (meaning inside.app) inside.progress id now → HasActed (meaning engine.app) engine.progress id now
  engine_acted now has = subst (λ (state : EngineState A V). HasActed (meaning state.app) state.progress id now) same has

  pub engine_fault : (out now : Progress V) (why : OverCause) → now ≡ out → IsActFault (meaning inside.app) inside.progress id out why → IsActFault (meaning engine.app) engine.progress id now why
  engine_fault out now why is fault =
      subst (λ (state : EngineState A V). IsActFault (meaning state.app) state.progress id now why) same (subst (λ (now : Progress V). IsActFault (meaning inside.app) inside.progress id now why) (sym is) fault)
