-- A job of a sound execution that was performed: its node, its effect, and its cells.
use Rattle.std.proofs.Common.{◌≡◌, ℕ, suc, ◌<◌, ◌≤◌, ◌||◌, Bool, true, false, List, [], ◌∷◌, ◌++◌, length, map, refl, sym, ap, subst, ◌∙◌}
use Rattle.std.specs.Prelude.{Contains, IsFalse}
use Rattle.std.specs.List.{AllByRecursion, list_any}
use Rattle.plain_laws.specs.Members.{all_at, in_map}
use Rattle.plain_laws.specs.Lists.{All-weaker, All-swapped, All-middle}
use Rattle.task_order.specs.declared.key.Key.{Key}
use Rattle.task_order.specs.declared.task.Body.{Body}
use Rattle.task_order.specs.declared.start.Start.{Start}
use Rattle.task_order.specs.declared.task.Task.{Task}
use Rattle.task_order.specs.TaskList.{HasDistinctKeys, IsNewKey, put_in, without}
use Rattle.task_order.specs.TaskListLaws.{All-put_in}
use Rattle.rw_sets.specs.Accesses.{Accesses, access_at, writes}
use Rattle.rw_sets.specs.AccessLaws.{some_from_writes}
use Rattle.cell_store.specs.declared.cell.Cell.{Cell}
use Rattle.cell_store.specs.declared.cell.Cell.TheVariants.{Out}
use Rattle.cell_store.specs.Cells.{AreHome, AreWrittenOut, IsBundle, cell_at, cells_given, cells_taken, part_of}
use Rattle.cell_store.specs.Values.{AgreesWith, ChangesOnlyWritten, homes}
use Rattle.kdg_graph.specs.declared.change.Fresh.{Fresh}
use Rattle.kdg_graph.specs.Rewrite.{HaveNewKeys, fresh_tasks}
use Rattle.kdg_graph.specs.Nodes.{node_with_key, tasks_of}
use Rattle.output_log.specs.Entries.{Entry, IsNewEntry}
use Rattle.app_laws.specs.declared.app.Effect.{Effect}
use Rattle.app_laws.specs.declared.child.Child.{Child}
use Rattle.app_laws.specs.Applications.{Application, IsFitTask, handed, set_in}
use Rattle.app_laws.specs.Execution.{children_from}
use Rattle.app_laws.specs.Order.{AreApart, Pairwise, is_prefix}
use Rattle.app_laws.specs.ApartLaws.{TasksApart, apart_from_put_in, is_prefix-same}
use Rattle.run_laws.specs.Jobs.{Done, Job}
use Rattle.run_laws.specs.Events.{fresh_from}
use Rattle.run_laws.specs.FinishBasis.{FinishBasis}
use Rattle.run_laws.specs.Finishes.{IsEnded}
use Rattle.crew.specs.Jobs.{IsPerformed}
use Rattle.run_laws.specs.Progress.{Progress}
use Rattle.run_laws.specs.Sound.{Covers, IsOfNode, IsSound, is_written}

any_in_middle : {X : Type 0} (p : X → Bool) (xs : List X) (x : X) (ys : List X) → p x ≡ true → list_any p (xs ++ x ∷ ys) ≡ true
any_in_middle p [] x ys is = ap (λ (test : Bool). test || list_any p ys) is
any_in_middle p (y ∷ xs) x ys is = by_case (p y) (any_in_middle p xs x ys is)
  where
    by_case : (test : Bool) → list_any p (xs ++ x ∷ ys) ≡ true → (test || list_any p (xs ++ x ∷ ys)) ≡ true
    by_case true any = refl
    by_case false any = any

-- the task's path is no prefix of the entry's
abbrev pub IsUnlogged : Task → Entry → Type 0
IsUnlogged task entry = is_prefix task.key.path entry.0.path ≡ false

pub path_differs : (task : Task) (entry : Entry) → IsUnlogged task entry → entry.0.path ≡ task.key.path → ⊥
path_differs task entry none same =
    let itself = is_prefix-same task.key.path in
    let never : is_prefix task.key.path task.key.path ≡ false = subst (λ (path : List ℕ). is_prefix task.key.path path ≡ false) same none in
    cc

-- paths of which one is no prefix of the other are no one path
paths_differ : (path other : List ℕ) → is_prefix path other ≡ false → path ≡ other → ⊥
paths_differ path other none same =
    let itself = is_prefix-same path in
    let never : is_prefix path path ≡ false = subst (λ (other : List ℕ). is_prefix path other ≡ false) (sym same) none in
    cc

distinct_from_apart : (tasks : List Task) → Pairwise TasksApart tasks → HasDistinctKeys tasks
distinct_from_apart [] pairs = tt
distinct_from_apart (task ∷ tasks) pairs = (
  All-weaker (TasksApart task) (λ (other : Task). other.key ≡ task.key → ⊥)
      (λ other apart same. paths_differ task.key.path other.key.path apart.not_before (ap (λ (key : Key). key.path) (sym same))) tasks pairs.0,
  distinct_from_apart tasks pairs.1,
)

all_from_map : {X Y : Type 0} (P : Y → Type 0) (f : X → Y) (xs : List X) → AllByRecursion P (map f xs) → AllByRecursion (λ x. P (f x)) xs
all_from_map P f [] all = tt
all_from_map P f (x ∷ xs) all = (all.0, all_from_map P f xs all.1)

module _ {V : Type 0} (app : Application V) where
  -- the fresh tasks are the children that were handed over
  fresh_are_children : (cells : List V) (parent : Key) (number : ℕ) (starts : List Start)
      → fresh_tasks (fresh_from parent number (map (handed app cells) starts)) ≡ children_from parent number starts
  fresh_are_children cells parent number [] = refl
  fresh_are_children cells parent number (start ∷ starts) =
      let rest = fresh_are_children cells parent (suc number) starts in
      cc

  all-handed : (P : ℕ → Body → Type 0) (cells : List V) (starts : List Start) → AllByRecursion (λ (start : Start). P start.prio start.body) starts → AllByRecursion (λ (child : Child). P child.prio child.body) (map (handed app cells) starts)
  all-handed P cells [] all = tt
  all-handed P cells (start ∷ starts) all = (all.0, all-handed P cells starts all.1)

module _ {V : Type 0} {app : Application V} (basis : FinishBasis app) where
  module _ {old : Progress V} {done : Done V} {job : Job V} {jobs others : List (Job V)} {values : List V} (sound : IsSound app old jobs values) (performed : IsPerformed app jobs done job others) where
    pub named : IsOfNode app old.nodes job
    named = All-middle (IsOfNode app old.nodes) performed.before job performed.after (subst (AllByRecursion (IsOfNode app old.nodes)) performed.there sound.outs_match.named)

    is_there : Contains old.nodes named.0
    is_there = (basis.keys_find old.nodes job.task.key named.0 named.1).0

    node_set : named.0.set ≡ set_in app values job.task
    node_set =
        (all_at (λ node. Covers app old.cells values node) old.nodes named.0 sound.recorded_covers is_there).running named.2.running
        ∙ ap (λ task. set_in app values task) named.2.task

    its_bundle : job.bundle ≡ part_of (homes values) (set_in app values job.task)
    its_bundle =
        let all = subst (AllByRecursion (λ job. job.bundle ≡ part_of (homes values) job.bundle.set)) performed.there sound.whole.bundles in
        let own : job.bundle ≡ part_of (homes values) job.bundle.set = All-middle (λ job. job.bundle ≡ part_of (homes values) job.bundle.set) performed.before job performed.after all in
        own ∙ ap (λ set. part_of (homes values) set) (sym named.2.set ∙ node_set)

    pub performed_node : IsEnded app old values done job named.0
    performed_node = record {
      there = is_there;
      found = ap (λ (task : Task). node_with_key old.nodes task.key) (sym performed.task) ∙ named.1;
      at_id = basis.have_ids old.nodes named.0 sound.keys_and_counts.graph is_there;
      task = named.2.task;
      job_task = performed.task;
      running = named.2.running;
      job_set = named.2.set;
      set = node_set;
      bundle = its_bundle;
      effect = performed.effect values sound.ready.cells its_bundle;
    }

    pub is_pending : Contains (tasks_of old.nodes) job.task
    is_pending = subst (Contains (tasks_of old.nodes)) named.2.task (in_map (λ node. node.task) old.nodes named.0 is_there)

    pub fit_task : IsFitTask app job.task
    fit_task = all_at (IsFitTask app) _ job.task sound.ready.tasks is_pending

    pub fit_after : app.is_fit_cells (app.act job.task values).cells
    fit_after = (basis.lawful.acts_are_fit job.task values sound.ready.cells fit_task).cells

    pub job_set : job.bundle.set ≡ set_in app values job.task
    job_set = sym named.2.set ∙ node_set

    pub changes_written : ChangesOnlyWritten job.bundle.set values (app.act job.task values).cells
    changes_written = record {
      as_many = basis.lawful.cells_are_counted (app.act job.task values).cells fit_after ∙ sym (basis.lawful.cells_are_counted values sound.ready.cells);
      elsewhere = λ loc unwritten. basis.lawful.acts_are_local.unchanged job.task values sound.ready.cells fit_task loc (subst (λ set. IsFalse (writes set loc)) job_set unwritten);
    }

    pub written_is_out : (loc : ℕ) → loc < length old.cells → writes job.bundle.set loc ≡ true → cell_at old.cells loc ≡ Out
    written_is_out loc inside written =
        (sound.whole.away loc inside).1
        (subst (λ jobs. is_written app jobs loc ≡ true) (sym performed.there)
        (any_in_middle (λ job. writes job.bundle.set loc) performed.before job performed.after written))

    -- the set of the new values is that of the job
    pub done_set : done.effect.bundle.set ≡ job.bundle.set
    done_set = ap (λ (effect : Effect V). effect.bundle.set) performed_node.effect ∙ sym job_set

    pub bundle_is_out : AreWrittenOut old.cells done.effect.bundle.set
    bundle_is_out loc written =
        let of_job : writes job.bundle.set loc ≡ true = subst (λ (set : Accesses). writes set loc ≡ true) done_set written in
        let declared : writes (set_in app values job.task) loc ≡ true = subst (λ (set : Accesses). writes set loc ≡ true) job_set of_job in
        let below = (basis.lawful.sets_are_in_range job.task values sound.ready.cells fit_task).below loc (some_from_writes (access_at (set_in app values job.task) loc) declared) in
        let many : length old.cells ≡ app.count = sound.whole.home.as_many ∙ basis.lawful.cells_are_counted values sound.ready.cells in
        let inside : loc < length old.cells = subst (λ (n : ℕ). loc < n) (sym many) below in
        (inside, written_is_out loc inside of_job)

    -- the new values are whole
    pub bundle_is_whole : IsBundle done.effect.bundle
    bundle_is_whole =
        let new = (app.act job.task values).cells in
        let set = set_in app values job.task in
        let in_range = basis.lawful.sets_are_in_range job.task values sound.ready.cells fit_task in
        let many : length (homes new) ≡ app.count = (basis.agreement.of_homes new).as_many ∙ basis.lawful.cells_are_counted new fit_after in
        let home : AreHome (homes new) set = λ loc there. basis.all_homes.all_home new loc (subst (λ (n : ℕ). loc < n) (sym many) (in_range.below loc there)) in
        subst IsBundle (sym (ap (λ (effect : Effect V). effect.bundle) performed_node.effect)) (basis.parts.is_bundle (homes new) set in_range.ascending home)

    pub given_is : cells_given old.cells done.effect.bundle ≡ cells_given old.cells (part_of (homes (app.act job.task values).cells) job.bundle.set)
    given_is =
        ap (λ (effect : Effect V). cells_given old.cells effect.bundle) performed_node.effect
        ∙ ap (λ set. cells_given old.cells (part_of (homes (app.act job.task values).cells) set)) (sym job_set)

    pub agrees_given : AgreesWith (cells_given old.cells done.effect.bundle) (app.act job.task values).cells
    agrees_given =
        let new = (app.act job.task values).cells in
        let set = job.bundle.set in
        let taken = basis.agreement.taken old.cells values new set sound.whole.home changes_written in
        let given = basis.agreement.given (cells_taken old.cells set) new set taken in
        subst (λ (cells : List (Cell V)). AgreesWith cells new) (basis.giving_forgets old.cells set (part_of (homes new) set) (basis.within_itself set) ∙ sym given_is) given

    pub children_not_earlier : AllByRecursion (λ (child : Child). done.task.key.prio ≤ child.prio) done.effect.children
    children_not_earlier =
        let outcome = app.act job.task values in
        let handed_over : AllByRecursion (λ (child : Child). job.task.key.prio ≤ child.prio) (map (handed app outcome.cells) outcome.children) =
        all-handed app (λ prio body. job.task.key.prio ≤ prio) outcome.cells outcome.children (basis.lawful.children_come_no_earlier job.task values sound.ready.cells fit_task) in
        subst (λ (task : Task). AllByRecursion (λ (child : Child). task.key.prio ≤ child.prio) done.effect.children) performed.task
        (subst (λ (effect : Effect V). AllByRecursion (λ (child : Child). job.task.key.prio ≤ child.prio) effect.children) (sym performed_node.effect) handed_over)

    pub children_fit : AllByRecursion (λ (child : Child). app.is_fit_task child.prio child.body) done.effect.children
    children_fit =
        let outcome = app.act job.task values in
        subst (λ (effect : Effect V). AllByRecursion (λ (child : Child). app.is_fit_task child.prio child.body) effect.children) (sym performed_node.effect)
        (all-handed app app.is_fit_task outcome.cells outcome.children (basis.lawful.acts_are_fit job.task values sound.ready.cells fit_task).children)

    pub tasks_unlogged : AllByRecursion (IsUnlogged job.task) old.log
    tasks_unlogged = all_at (λ task. AllByRecursion (IsUnlogged task) old.log) (tasks_of old.nodes) job.task sound.keys_and_counts.unlogged is_pending

    pub new_entry : IsNewEntry job.task.key old.log
    new_entry =
        All-weaker (IsUnlogged job.task) (λ (entry : Entry). entry.0 ≡ job.task.key → ⊥)
        (λ entry none same. path_differs job.task entry none (ap (λ key. key.path) same)) old.log tasks_unlogged

    pub restored : put_in job.task (without job.task.key (tasks_of old.nodes)) ≡ tasks_of old.nodes
    restored = basis.put_without job.task (tasks_of old.nodes) sound.ready.ascending is_pending

    pub fresh_are : fresh_tasks (fresh_from done.task.key 0 done.effect.children) ≡ children_from job.task.key 0 (app.act job.task values).children
    fresh_are =
        ap (λ (effect : Effect V). fresh_tasks (fresh_from done.task.key 0 effect.children)) performed_node.effect
        ∙ fresh_are_children app (app.act job.task values).cells done.task.key 0 (app.act job.task values).children
        ∙ ap (λ (task : Task). children_from task.key 0 (app.act job.task values).children) (sym performed.task)

    -- the children's keys are no pending task's
    children_new : AllByRecursion (λ (child : Task). IsNewKey child.key (tasks_of old.nodes)) (children_from job.task.key 0 (app.act job.task values).children)
    children_new =
        let starts = (app.act job.task values).children in
        let children = children_from job.task.key 0 starts in
        let rest = without job.task.key (tasks_of old.nodes) in
        let apart : AllByRecursion (TasksApart job.task) rest = apart_from_put_in job.task rest (subst (Pairwise TasksApart) (sym restored) sound.ready.apart) in
        let others : AllByRecursion (λ (other : Task). AllByRecursion (λ (child : Task). other.key ≡ child.key → ⊥) children) rest =
        All-weaker (TasksApart job.task) (λ (other : Task). AllByRecursion (λ (child : Task). other.key ≡ child.key → ⊥) children)
        (λ other apart. All-weaker (λ (child : Task). AreApart child.key.path other.key.path) (λ (child : Task). other.key ≡ child.key → ⊥)
        (λ child both same. paths_differ child.key.path other.key.path both.not_before (ap (λ (key : Key). key.path) (sym same))) children
        (basis.children_apart job.task.key starts other.key.path apart)) rest apart in
        let parent : AllByRecursion (λ (child : Task). job.task.key ≡ child.key → ⊥) children =
        All-weaker (λ (child : Task). is_prefix child.key.path job.task.key.path ≡ false) (λ (child : Task). job.task.key ≡ child.key → ⊥)
        (λ child none same. paths_differ child.key.path job.task.key.path none (ap (λ (key : Key). key.path) (sym same))) children (basis.children_go_on job.task.key starts) in
        let each : AllByRecursion (λ (other : Task). AllByRecursion (λ (child : Task). other.key ≡ child.key → ⊥) children) (tasks_of old.nodes) =
        subst (AllByRecursion (λ (other : Task). AllByRecursion (λ (child : Task). other.key ≡ child.key → ⊥) children)) restored
        (All-put_in (λ (other : Task). AllByRecursion (λ (child : Task). other.key ≡ child.key → ⊥) children) job.task rest parent others) in
        All-swapped (λ (child other : Task). other.key ≡ child.key → ⊥) children (tasks_of old.nodes) each

    pub fresh_new : HaveNewKeys (tasks_of old.nodes) (fresh_from done.task.key 0 done.effect.children)
    fresh_new = record {
      new = all_from_map (λ (child : Task). IsNewKey child.key (tasks_of old.nodes)) (λ (item : Fresh). item.task) (fresh_from done.task.key 0 done.effect.children)
          (subst (AllByRecursion (λ (child : Task). IsNewKey child.key (tasks_of old.nodes))) (sym fresh_are) children_new);
      own = subst HasDistinctKeys (sym fresh_are) (distinct_from_apart (children_from job.task.key 0 (app.act job.task values).children) (basis.siblings_apart job.task.key (app.act job.task values).children));
    }
