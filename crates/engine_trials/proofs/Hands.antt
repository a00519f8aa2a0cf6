-- What becomes of the jobs in hand.
use Rattle.std.proofs.Common.{◌≡◌, ℕ, suc, ◌+◌, ◌<◌, List, [], ◌∷◌, ◌++◌, length, take, drop, get_or, Some, refl, sym, ap, subst, ◌∙◌, add-one, arith}
use Rattle.std.specs.Prelude.{Contains}
use Rattle.std.specs.List.{AllByRecursion}
use Rattle.std.specs.Option.{option_map}
use Rattle.std.proofs.Math.Seq.{drop-cons}
use Rattle.std.proofs.lemmas.List.{take-append-drop}
use Rattle.std.proofs.lemmas.List.Elements.{Contains-get_or}
use Rattle.plain_laws.specs.Lists.{All-middle}
use Rattle.plain_laws.specs.Options.{some_injective}
use Rattle.task_order.specs.declared.task.Task.{Task}
use Rattle.rw_sets.specs.Accesses.{Accesses}
use Rattle.cell_store.specs.Part.{Part}
use Rattle.kdg_graph.specs.declared.node_id.NodeId.{NodeId}
use Rattle.kdg_graph.specs.Laws.{KeysFindNodes, NodesHaveIds}
use Rattle.kdg_graph.specs.Node.{Node}
use Rattle.kdg_graph.specs.Nodes.{node_at, node_with_key, set_at}
use Rattle.app_laws.specs.Applications.{Application, IsEffect}
use Rattle.app_laws.specs.declared.app.Effect.{Effect}
use Rattle.run_laws.specs.Jobs.{Done, Job}
use Rattle.graph_update.specs.Engine.{FinishStaysSound, StaysSound}
use Rattle.run_laws.specs.Laws.{IsDone, JobsMayRun}
use Rattle.crew.specs.Jobs.{MayRun}
use Rattle.run_laws.specs.Progress.{Progress}
use Rattle.run_laws.specs.Sound.{IsOfNode}
use Rattle.engine_trials.specs.InHand.{AreInHand, IsDoneBeside}

-- ---- lists

-- the one in the middle
at_middle : {X : Type 0} (before : List X) (x : X) (after : List X) → Contains (before ++ x ∷ after) x
at_middle [] x after = (0, omega arith, refl)
at_middle (y ∷ before) x after = let rest = at_middle before x after in (suc rest.0, omega (arith, rest.1), rest.2)

-- an item with those before and after it
parted : {X : Type 0} (xs : List X) (place : ℕ) (x : X) → place < length xs → x ≡ get_or xs place x → xs ≡ take place xs ++ x ∷ drop (suc place) xs
parted xs place x inside is =
    sym (take-append-drop place xs)
    ∙ ap (λ rest. take place xs ++ rest) (drop-cons xs place x inside ∙ ap (λ y. y ∷ drop (suc place) xs) (sym is))

module _ {V : Type 0} (app : Application V) where
  pub after_change : (old now : Progress V) (jobs : List (Job V)) → StaysSound app old now → AreInHand app old jobs → AreInHand app now jobs
  after_change old now jobs stays in_hand = record { values = in_hand.values; sound = stays jobs in_hand.values in_hand.sound }

  pub after_finish : (old now : Progress V) (jobs : List (Job V)) (done : Done V) → FinishStaysSound app old done now → IsDoneBeside app old jobs done → AreInHand app now jobs
  after_finish old now jobs done stays beside = record {
    values = (app.act beside.job.task beside.values).cells;
    sound = stays beside.all jobs beside.job beside.values beside.sound beside.performed;
  }

  pub may_run_at : (progress : Progress V) (jobs : List (Job V)) (place : ℕ) (job : Job V) → JobsMayRun app → AreInHand app progress jobs → place < length jobs → job ≡ get_or jobs place job → MayRun app job
  may_run_at progress jobs place job laws in_hand inside is =
      laws progress jobs in_hand.values job in_hand.sound (subst (Contains jobs) (sym is) (Contains-get_or jobs place job inside))

  pub done_beside : (progress : Progress V) (jobs others : List (Job V)) (place : ℕ) (job : Job V) (done : Done V) → AreInHand app progress jobs → place < length jobs
      → job ≡ get_or jobs place job → others ≡ take place jobs ++ drop (place + 1) jobs → done.node ≡ job.node → done.task ≡ job.task → IsEffect app job.task job.bundle done.effect → IsDoneBeside app progress others done
  done_beside progress jobs others place job done in_hand inside is others_are node task effect = record {
    all = jobs;
    values = in_hand.values;
    sound = in_hand.sound;
    job = job;
    performed = record {
      before = take place jobs;
      after = drop (suc place) jobs;
      there = parted jobs place job inside is;
      others_are = others_are ∙ ap (λ n. take place jobs ++ drop n jobs) (add-one place);
      node = sym node;
      task = sym task;
      effect = effect;
    };
  }

  pub is_done : (progress : Progress V) (jobs : List (Job V)) (done : Done V) → IsDoneBeside app progress jobs done → IsDone app progress done
  is_done progress jobs done beside = record {
    jobs = beside.all;
    values = beside.values;
    sound = beside.sound;
    job = beside.job;
    others = jobs;
    performed = beside.performed;
  }

  -- the recorded set of its node is that of the cells that it left
  pub set_left : (progress : Progress V) (done : Done V) (id : NodeId) (set : Accesses) → JobsMayRun app → KeysFindNodes → NodesHaveIds → IsDone app progress done
      → Some id ≡ option_map (λ node. node.id) (node_with_key progress.nodes done.task.key) → set_at progress.nodes id ≡ Some set → done.effect.bundle.set ≡ set
  set_left progress done id set laws keys_find have_ids is found at =
      let performed = is.performed in
      let named : IsOfNode app progress.nodes is.job = All-middle (IsOfNode app progress.nodes) performed.before is.job performed.after (subst (AllByRecursion (IsOfNode app progress.nodes)) performed.there is.sound.outs_match.named) in
      let node : Node = named.0 in
      let its : node_with_key progress.nodes done.task.key ≡ Some node = ap (λ (task : Task). node_with_key progress.nodes task.key) (sym performed.task) ∙ named.1 in
      let same_id : id ≡ node.id = some_injective id node.id (found ∙ ap (option_map (λ (one : Node). one.id)) its) in
      let at_id = have_ids progress.nodes node is.sound.keys_and_counts.graph (keys_find progress.nodes is.job.task.key node named.1).0 in
      let node_set : node.set ≡ set = some_injective node.set set (sym (ap (option_map (λ (one : Node). one.set)) (ap (node_at progress.nodes) same_id ∙ at_id)) ∙ at) in
      let may = laws progress is.jobs is.values is.job is.sound (subst (λ jobs. Contains jobs is.job) (sym performed.there) (at_middle performed.before is.job performed.after)) in
      let left : done.effect.bundle.set ≡ is.job.bundle.set =
      ap (λ (effect : Effect V). effect.bundle.set) (performed.effect may.taken.cells may.taken.fit may.taken.is) ∙ sym (ap (λ (part : Part V). part.set) may.taken.is) in
      left ∙ sym named.2.set ∙ node_set
