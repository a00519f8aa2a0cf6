-- What is known of an engine in a turn.
use Rattle.std.proofs.Common.{◌≡◌, ◌≢◌, ⊎_elim, not, Bool, true, false, List, [], ◌∷◌, ◌++◌, map, None, sym, ap, subst, ◌∙◌, append_assoc}
use Rattle.std.specs.Prelude.{Contains, IsTrue}
use Rattle.std.specs.List.{AllByRecursion}
use Rattle.std.specs.Option.{option_or}
use Rattle.std.specs.Ordering.{is_lt}
use Rattle.std.proofs.lemmas.Bool.{and_parts, true≢false}
use Rattle.std.specs.declared.cmp.Ordering.TheVariants.{Less}
use Rattle.plain_laws.specs.Lists.{All-front, All-map, All-shuffled, All-swapped, All-weaker}
use Rattle.plain_laws.specs.Members.{all_at, in_filter, none_passes}
use Rattle.plain_laws.specs.Bools.{false_from_not}
use Rattle.task_order.specs.declared.key.Key.{Key}
use Rattle.task_order.specs.Key.{key_cmp}
use Rattle.rw_sets.specs.Accesses.{Conflicts, conflicts_with}
use Rattle.cell_store.specs.declared.cell.Cell.TheVariants.{Home}
use Rattle.cell_store.specs.Cells.{part_of}
use Rattle.cell_store.specs.Values.{values_of}
use Rattle.output_log.specs.Entries.{Entry, IsNewEntry}
use Rattle.kdg_graph.specs.Laws.{NewKeysFindNone}
use Rattle.kdg_graph.specs.Edges.{is_blocked}
use Rattle.kdg_graph.specs.Node.{Node}
use Rattle.kdg_graph.specs.Nodes.{earlier_than, node_with_key}
use Rattle.app_laws.specs.Applications.{Application}
use Rattle.app_laws.specs.Order.{Pairwise}
use Rattle.run_laws.specs.Basis.{LowerLaws}
use Rattle.run_laws.specs.CourseLaws.{CoursesMeanTheSequentialRun, keys_of}
use Rattle.run_laws.specs.Jobs.{Job}
use Rattle.run_laws.specs.Moves.{Moved}
use Rattle.run_laws.specs.NodeLists.{all-tasks}
use Rattle.run_laws.specs.Progress.{Progress}
use Rattle.run_laws.specs.Sound.{IsOfNode, IsSound, is_unblocked}
use Rattle.graph_update.specs.Engine.{EngineState}
use Rattle.worker_gate.specs.Fits.{Continues, Sum, beside, drained_count}
use Rattle.worker_gate.specs.Known.{FoundIsKnown, IsKnown, MovedIsKnown, PerformedMayEnd, RunApart, SumsAreKnown}
use Rattle.worker_gate.specs.Laws.{MovesContinue, new_mark}
use Rattle.worker_gate.specs.Steps.{IsFound, Seen}

-- ---- lists

pairwise_front : {X : Type 0} (R : X → X → Type 0) (xs ys : List X) → Pairwise R (xs ++ ys) → Pairwise R xs
pairwise_front R [] ys pairs = tt
pairwise_front R (x ∷ xs) ys pairs = (All-front (R x) xs ys pairs.0, pairwise_front R xs ys pairs.1)

never_both : (test : Bool) → test ≡ false → IsTrue test → ⊥
never_both true is held = true≢false is
never_both false is held = true≢false (sym held)

-- ---- running nodes

module _ {V : Type 0} (app : Application V) (lower : LowerLaws) (nodes : List Node) (unblocked : AllByRecursion (λ node. node.running ≡ true → is_unblocked app nodes node ≡ true) nodes) where
  none_earlier : (node other : Node) → Contains nodes node → Contains nodes other → node.running ≡ true → key_cmp other.task.key node.task.key ≡ Less → ¬ Conflicts other.set node.set
  none_earlier node other here there runs less conflict =
      let free = all_at (λ (node : Node). node.running ≡ true → is_unblocked app nodes node ≡ true) nodes node unblocked here runs in
      let clear : is_blocked nodes node ≡ false = false_from_not (is_blocked nodes node) (and_parts (not (is_blocked nodes node)) _ free).0 in
      let earlier : Contains (earlier_than node.task.key nodes) other =
      in_filter (λ (other : Node). is_lt (key_cmp other.task.key node.task.key)) nodes other there (ap is_lt less) in
      let no : conflicts_with other.set node.set ≡ false =
      none_passes (λ (other : Node). conflicts_with other.set node.set) (earlier_than node.task.key nodes) other clear earlier in
      never_both (conflicts_with other.set node.set) no ((lower.decided other.set node.set).1 conflict)

  run_apart : RunApart nodes
  run_apart = record {
    unblocked = none_earlier;
    apart = λ node other here there runs other_runs differ conflict. ⊎_elim
        (λ (less : key_cmp node.task.key other.task.key ≡ Less). none_earlier other node there here other_runs less conflict)
        (λ (less : key_cmp other.task.key node.task.key ≡ Less). none_earlier node other here there runs less (lower.turned node.set other.set conflict))
        (lower.connected node.task.key other.task.key differ);
  }

-- ---- keys that ended

gone_with_entries : NewKeysFindNone → (nodes : List Node) (entries : List Entry) → AllByRecursion (λ (node : Node). IsNewEntry node.task.key entries) nodes
    → AllByRecursion (λ (key : Key). node_with_key nodes key ≡ None) (keys_of entries)
gone_with_entries new_keys nodes entries no_nodes =
    All-map (λ (key : Key). node_with_key nodes key ≡ None) (λ (entry : Entry). entry.0) entries
    (All-weaker (λ (entry : Entry). AllByRecursion (λ (node : Node). entry.0 ≢ node.task.key) nodes) (λ (entry : Entry). node_with_key nodes entry.0 ≡ None)
    (λ entry differ. (new_keys nodes entry.0).1
    (all-tasks (λ task. task.key ≢ entry.0) nodes (λ node has same. all_at (λ (node : Node). entry.0 ≢ node.task.key) nodes node differ has (sym same))))
    entries
    (All-swapped (λ (entry : Entry) (node : Node). entry.0 ≢ node.task.key) entries nodes no_nodes))

-- ---- all of it

module _ {V : Type 0} {app : Application V} (lower : LowerLaws) (new_keys : NewKeysFindNone) (means : CoursesMeanTheSequentialRun app) where
  pub sums_are_known : SumsAreKnown app
  sums_are_known origin now jobs ended over others continues =
      let sound = continues.come.sound in
      let course = means origin (values_of origin.cells) continues.drained continues.entries now (jobs ++ others.jobs) continues.values continues.come in
      record {
        running = All-front (IsOfNode app now.nodes) jobs others.jobs sound.outs_match.named;
        own = pairwise_front (λ (job other : Job V). job.task.key ≢ other.task.key) jobs others.jobs sound.outs_match.own;
        values = continues.values;
        home = sound.whole.home;
        bundles = All-front (λ (job : Job V). job.bundle ≡ part_of (map Home continues.values) job.bundle.set) jobs others.jobs sound.whole.bundles;
        apart = run_apart app lower now.nodes sound.running_unblocked;
        gone = All-front (λ (key : Key). node_with_key now.nodes key ≡ None) ended others.finished
            (All-shuffled (λ (key : Key). node_with_key now.nodes key ≡ None) (keys_of continues.entries) (ended ++ others.finished) continues.finished
            (gone_with_entries new_keys now.nodes continues.entries course.no_nodes));
      }

-- the engine after a move in a turn goes on from the origin, with the jobs of the seat and of others
module _ {A V : Type 0} {meaning : A → Application V} (moves : (app : A) → MovesContinue (meaning app)) {v : Seen A V} {found : EngineState A V} (is : IsFound meaning v found) where
  module _ {now : Progress V} {jobs : List (Job V)} {ended : List Key} (moved : Moved (meaning found.app) found.progress v.jobs now jobs ended) where
    abbrev others_now : Sum V
    others_now = record is.others { drained = drained_count now }

    continues_now : Continues (meaning is.origin.app) is.origin.progress now (beside jobs (v.finished ++ ended) (option_or v.over (new_mark found.progress.over now.over)) others_now)
    continues_now =
        moves is.origin.app is.origin.progress found.progress now v.jobs jobs v.finished ended v.over is.others is.fits.progress
        (subst (λ (own : A). Moved (meaning own) found.progress v.jobs now jobs ended) is.fits.app moved)

module _ {A V : Type 0} {meaning : A → Application V} (moves : (app : A) → MovesContinue (meaning app)) where
  pub found_is_known : ((app : A) → SumsAreKnown (meaning app)) → FoundIsKnown meaning
  found_is_known known v found is =
      subst (λ (own : A). IsKnown (meaning own) found.progress v.jobs v.finished) (sym is.fits.app)
      (known is.origin.app is.origin.progress found.progress v.jobs v.finished v.over is.others is.fits.progress)

  pub moved_is_known : ((app : A) → SumsAreKnown (meaning app)) → MovedIsKnown meaning
  moved_is_known known v found now jobs ended is moved =
      subst (λ (own : A). IsKnown (meaning own) now jobs (v.finished ++ ended)) (sym is.fits.app)
      (known is.origin.app is.origin.progress now jobs (v.finished ++ ended) (option_or v.over (new_mark found.progress.over now.over)) (others_now moves is moved) (continues_now moves is moved))

  pub performed_may_end : PerformedMayEnd meaning
  performed_may_end v found now jobs ended done job others is moved performed =
      let continues = continues_now moves is moved in
      let more = is.others.jobs in
      record {
        jobs = jobs ++ more;
        values = continues.values;
        sound = subst (λ (own : A). IsSound (meaning own) now (jobs ++ more) continues.values) (sym is.fits.app) continues.come.sound;
        job = job;
        others = others ++ more;
        performed = record {
          before = performed.before;
          after = performed.after ++ more;
          there = ap (λ (all : List (Job V)). all ++ more) performed.there ∙ append_assoc performed.before (job ∷ performed.after) more;
          others_are = ap (λ (all : List (Job V)). all ++ more) performed.others_are ∙ append_assoc performed.before performed.after more;
          node = performed.node;
          task = performed.task;
          effect = performed.effect;
        };
      }
