-- The first tasks as nodes, one after another.
use Rattle.std.proofs.Common.{◌≡◌, ◌≢◌, ℕ, suc, ◌+◌, ◌<◌, false, List, [], ◌∷◌, length, drop, get_or, refl, sym, ap, ◌∙◌, subst, arith, add-one, drop-cons}
use Rattle.std.specs.List.{AllByRecursion}
use Rattle.std.specs.Ordering.{is_lt}
use Rattle.std.proofs.lemmas.Bool.{cond_both}
use Rattle.std.proofs.lemmas.List.Elements.{All-from_recursion, All-get_or}
use Rattle.plain_laws.specs.Lists.{All-joined}
use Rattle.task_order.specs.declared.key.Key.{Key}
use Rattle.task_order.specs.declared.start.Start.{Start}
use Rattle.task_order.specs.declared.task.Task.{Task}
use Rattle.task_order.specs.Key.{key_cmp}
use Rattle.task_order.specs.TaskList.{IsNewKey, put_in, put_all}
use Rattle.task_order.specs.TaskListLaws.{All-put_in}
use Rattle.rw_sets.specs.Accesses.{Accesses}
use Rattle.kdg_graph.specs.declared.node_id.NodeId.{NodeId}
use Rattle.kdg_graph.specs.Laws.{PutsAddTasks}
use Rattle.kdg_graph.specs.Node.{Node, new_node}
use Rattle.kdg_graph.specs.Nodes.{IsGraph, put_node, tasks_of}
use Rattle.app_laws.specs.Applications.{Application, AreFitStarts, set_in}
use Rattle.app_laws.specs.Execution.{first_from}
use Rattle.run_laws.specs.Answers.{AreFirstNodes}

all-put_node : (P : Node → Type 0) (node : Node) (nodes : List Node) → P node → AllByRecursion P nodes → AllByRecursion P (put_node node nodes)
all-put_node P node [] one all = (one, tt)
all-put_node P node (other ∷ nodes) one all =
    cond_both (is_lt (key_cmp other.task.key node.task.key)) (other ∷ put_node node nodes) (node ∷ other ∷ nodes) (AllByRecursion P)
    (λ _. (all.0, all-put_node P node nodes one all.1))
    (λ _. (one, all))

same_number : (number other : ℕ) → number ∷ [] ≡ other ∷ [] → number ≡ other
same_number number other same = cc

-- the first tasks from a number on have other paths than one with a lower number
other_paths : (number next : ℕ) → number < next → (first : List Start) → AllByRecursion (λ task. task.key.path ≢ number ∷ []) (first_from next first)
other_paths number next before [] = tt
other_paths number next before (start ∷ first) =
    ((λ same. let e = same_number next number same in absurd (omega (arith, before, e))), other_paths number (suc next) (omega (arith, before)) first)

abbrev task_of : ℕ → Start → Task
task_of number start = record { key = record { prio = start.prio; path = number ∷ [] }; body = start.body }

module _ {V : Type 0} (app : Application V) (cells : List V) (first : List Start) where
  -- the nodes so far, and the first tasks from a number on, which are new and complete them
  pub record AreLeft (number : ℕ) (nodes : List Node) : Type 0 where
    pub graph : IsGraph nodes
    pub puts : put_all (first_from number (drop number first)) (tasks_of nodes) ≡ put_all (first_from 0 first) []
    pub new : AllByRecursion (λ task. IsNewKey task.key (tasks_of nodes)) (first_from number (drop number first))
    pub sets : AllByRecursion (λ node. node.set ≡ set_in app cells node.task) nodes
    pub none_runs : AllByRecursion (λ node. node.running ≡ false) nodes

  all-new : (tasks : List Task) → AllByRecursion (λ task. IsNewKey task.key []) tasks
  all-new [] = tt
  all-new (task ∷ tasks) = (tt, all-new tasks)

  pub all_left : (nodes : List Node) → nodes ≡ [] → AreLeft 0 nodes
  all_left nodes none = subst (AreLeft 0) (sym none) (record {
    graph = record { ascending = tt; own_ids = tt; sets = tt };
    puts = refl;
    new = all-new (first_from 0 first);
    sets = tt;
    none_runs = tt;
  })

  pub none_left : (number : ℕ) (nodes : List Node) → drop number first ≡ [] → AreLeft number nodes → AreFirstNodes app cells first nodes
  none_left number nodes none left = record {
    graph = left.graph;
    tasks = sym (ap (λ starts. put_all (first_from number starts) (tasks_of nodes)) none) ∙ left.puts;
    sets = left.sets;
    none_runs = left.none_runs;
  }

  module _ (number : ℕ) (start : Start) (nodes : List Node) (within : number < length first) (left : AreLeft number nodes) where
    abbrev rest : List Task
    rest = first_from (suc number) (drop (suc number) first)

    abbrev task : Task
    task = task_of number (get_or first number start)

    parts : first_from number (drop number first) ≡ task ∷ rest
    parts = ap (first_from number) (drop-cons first number start within)

    new_ones : AllByRecursion (λ (other : Task). IsNewKey other.key (tasks_of nodes)) (task ∷ rest)
    new_ones = subst (AllByRecursion (λ (other : Task). IsNewKey other.key (tasks_of nodes))) parts left.new

    abbrev with_path : List ℕ → Task
    with_path path = record { key = record { prio = (get_or first number start).prio; path = path }; body = (get_or first number start).body }

    pub next_is_new : (path : List ℕ) → path ≡ number ∷ [] → IsNewKey (with_path path).key (tasks_of nodes)
    next_is_new path is = subst (λ (p : List ℕ). IsNewKey (with_path p).key (tasks_of nodes)) (sym is) new_ones.0

    new_after : (later : Task) → later.key.path ≢ number ∷ [] → IsNewKey later.key (tasks_of nodes) → IsNewKey later.key (put_in task (tasks_of nodes))
    new_after later differs new = All-put_in (λ (other : Task). other.key ≢ later.key) task (tasks_of nodes) (λ same. differs (sym (ap (λ (key : Key). key.path) same))) new

    pub next_left : PutsAddTasks → (path : List ℕ) (id : NodeId) (set : Accesses) (now : List Node) → path ≡ number ∷ [] → set ≡ set_in app cells (with_path path) → IsGraph now
        → now ≡ put_node (new_node id (with_path path) set) nodes → AreLeft (number + 1) now
    next_left puts_tasks path id set now is set_is graph now_is =
        let node = new_node id (with_path path) set in
        let tasks : tasks_of now ≡ put_in task (tasks_of nodes) = ap tasks_of now_is ∙ puts_tasks node nodes ∙ ap (λ (p : List ℕ). put_in (with_path p) (tasks_of nodes)) is in
        let new = All-joined (λ (later : Task). later.key.path ≢ number ∷ []) (λ (later : Task). IsNewKey later.key (tasks_of nodes)) (λ (later : Task). IsNewKey later.key (put_in task (tasks_of nodes)))
        new_after rest (other_paths number (suc number) (omega arith) (drop (suc number) first)) new_ones.1 in
        let all = ap (λ tasks. put_all tasks (tasks_of nodes)) (sym parts) ∙ left.puts in
        rw add-one (record {
          graph = graph;
          puts = ap (put_all rest) tasks ∙ all;
          new = subst (λ tasks. AllByRecursion (λ (later : Task). IsNewKey later.key tasks) rest) (sym tasks) new;
          sets = subst (AllByRecursion (λ (n : Node). n.set ≡ set_in app cells n.task)) (sym now_is) (all-put_node (λ (n : Node). n.set ≡ set_in app cells n.task) node nodes set_is left.sets);
          none_runs = subst (AllByRecursion (λ (n : Node). n.running ≡ false)) (sym now_is) (all-put_node (λ (n : Node). n.running ≡ false) node nodes refl left.none_runs);
        })

-- the next of them is a task of the application
pub next_is_fit : {V : Type 0} (app : Application V) (first : List Start) (number : ℕ) (start : Start) → number < length first → AreFitStarts app first
    → app.is_fit_task (get_or first number start).prio (get_or first number start).body
next_is_fit app first number start within fit =
    let Fits = λ (start : Start). app.is_fit_task start.prio start.body in
    All-get_or Fits first number start within (All-from_recursion Fits first fit)
