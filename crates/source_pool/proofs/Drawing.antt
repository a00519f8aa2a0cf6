-- The jobs that are drawn in a round are those of all clear tasks.
use Rattle.std.proofs.Common.{◌≡◌, ◌<◌, ◌⊎◌, inl, inr, ℕ, suc, not, Bool, true, false, cond, List, [], ◌∷◌, ◌++◌, length, get_or, refl, sym, ap, subst, ◌∙◌, arith, eq-eqb, IsPermutation}
use Rattle.std.specs.Prelude.{Contains}
use Rattle.std.specs.List.{AllByRecursion, filter}
use Rattle.std.specs.declared.cmp.Ordering.{Ordering}
use Rattle.std.specs.declared.cmp.Ordering.TheVariants.{Less, Equal, Greater}
use Rattle.std.specs.Ordering.{is_eq, is_lt}
use Rattle.std.proofs.lemmas.Bool.{true≢false, and_from}
use Rattle.std.proofs.lemmas.List.{length-map}
use Rattle.std.proofs.lemmas.List.Elements.{Contains-get_or}
use Rattle.std.proofs.lemmas.List.Folds.{Any-from_list_any, list_any_none}
use Rattle.std.proofs.lemmas.List.Sorted.{Contains-permutation, IsPermutation-sym, IsPermutation-to_front}
use Rattle.plain_laws.specs.Members.{all_at, all_from, cases, found_is_there, from_filter, from_map, in_filter, in_map, none}
use Rattle.plain_laws.specs.Lists.{length-filter_le}
use Rattle.task_order.specs.declared.key.Key.{Key}
use Rattle.task_order.specs.declared.task.Task.{Task}
use Rattle.task_order.specs.Key.{key_cmp}
use Rattle.task_order.specs.TaskList.{IsAscending}
use Rattle.rw_sets.specs.Accesses.{Accesses, Conflicts, conflicts_with}
use Rattle.kdg_graph.specs.Edges.{is_blocked}
use Rattle.kdg_graph.specs.Node.{Node}
use Rattle.kdg_graph.specs.Nodes.{earlier_than, is_at, started, tasks_of}
use Rattle.kdg_graph.specs.NodeLaws.{start, start_keeps_set, start_keeps_task}
use Rattle.app_laws.specs.Applications.{Application, set_in, tasks_before}
use Rattle.commuting.specs.Clear.{IsClear, IsReady}
use Rattle.commuting.specs.Rounds.{after_round, clear_tasks}
use Rattle.commuting.specs.States.{State, after_tasks, state_of}
use Rattle.run_laws.specs.Jobs.{Job}
use Rattle.run_laws.specs.Events.{is_clear, clear_nodes}
use Rattle.run_laws.specs.NodeLists.{tasks-earlier_than}
use Rattle.run_laws.specs.Progress.{Progress, whole_state}
use Rattle.run_laws.specs.Sound.{HasJob, IsSound, is_unblocked}
use Rattle.source_pool.specs.Basis.{Basis}
use Rattle.source_pool.specs.Course.{IsDrawing, IsEnding, job_tasks}
use Rattle.source_pool.specs.KeptLaws.{EndsAreTheRound}
use Rattle.source_pool.specs.Laws.{ClaimsGoOn, ClaimsLeaveFewer, DrawingsBegin, DrawnJobsAreTheRound, DrawnJobsDiffer, RoundsHaveJobs, StartsAreAtRest}
use Rattle.source_pool.proofs.Jobs.{job_is_clear, node_of}
use Rattle.source_pool.proofs.Lists.{same_tasks}

same_key : (exact : (a b : Key) → key_cmp a b ≡ Equal → a ≡ b) (key other : Key) → is_eq (key_cmp key other) ≡ true → key ≡ other
same_key exact key other is = exact key other (by_case (key_cmp key other) is)
  where
    by_case : (order : Ordering) → is_eq order ≡ true → order ≡ Equal
    by_case Less never = absurd (true≢false (sym never))
    by_case Equal is = refl
    by_case Greater never = absurd (true≢false (sym never))

-- where an item fails a test, fewer pass it
fewer_where_one_fails : {X : Type 0} (p : X → Bool) (xs : List X) (x : X) → Contains xs x → p x ≡ false → length (filter p xs) < length xs
fewer_where_one_fails p [] x has fails = absurd (none x has)
fewer_where_one_fails {X} p (y ∷ xs) x has fails = by_case (p y) refl (cases y x xs has) (λ later. fewer_where_one_fails p xs x later fails)
  where
    by_case : (test : Bool) → p y ≡ test → (y ≡ x) ⊎ Contains xs x → (Contains xs x → length (filter p xs) < length xs) → length (cond test (y ∷ filter p xs) (filter p xs)) < suc (length xs)
    by_case true is (inl same) fewer = absurd (true≢false (sym is ∙ ap p same ∙ fails))
    by_case true is (inr later) fewer = let rest = fewer later in omega (arith, rest)
    by_case false is where_ fewer = let rest = length-filter_le p xs in omega (arith, rest)

module _ {V : Type 0} {app : Application V} (basis : Basis app) where
  pub starts_are_at_rest : StartsAreAtRest app
  starts_are_at_rest progress cells sound over = record {
    values = cells;
    course = record { drained = []; entries = []; come = basis.starts progress cells sound over; text_is = refl; over = over };
    state_is = refl;
  }

  -- while nothing is running, each recorded set is the declared one
  pub drawings_begin : DrawingsBegin app
  drawings_begin first now cells state text rest = record {
    values = rest.values;
    course = rest.course;
    state_is = rest.state_is;
    sets_are = (basis.at_rest now rest.values rest.course.come.sound).sets;
  }

  -- ---- one more job

  pub claims_go_on : ClaimsGoOn app
  claims_go_on first now next cells state text jobs pick job drawing claimed =
      let course = drawing.course in
      let values = drawing.values in
      let claims = basis.claims first cells course.drained course.entries now next pick job jobs values course.come claimed in
      let tasks : tasks_of next.nodes ≡ tasks_of now.nodes = ap (λ (p : Progress V). tasks_of p.nodes) claimed.after ∙ basis.starts_keep_tasks claimed.node.id now.nodes in
      record {
        values = values;
        course = record {
          drained = course.drained;
          entries = course.entries;
          come = basis.any_order first cells course.drained course.entries next (job ∷ jobs) (jobs ++ job ∷ []) values claims (IsPermutation-sym (jobs ++ job ∷ []) (job ∷ jobs) (IsPermutation-to_front jobs job));
          text_is = course.text_is;
          over = ap (λ (p : Progress V). p.over) claimed.after ∙ course.over;
        };
        state_is = ap (state_of values) tasks ∙ drawing.state_is;
        sets_are =
            let Exact = λ (node : Node). node.set ≡ set_in app values node.task in
            subst (λ (p : Progress V). AllByRecursion Exact p.nodes) (sym claimed.after)
            (all_from Exact (started claimed.node.id now.nodes) (λ node there.
            let from : (was : Node) × Contains now.nodes was × (start claimed.node.id was ≡ node) = from_map (start claimed.node.id) now.nodes node there in
            let was = from.0 in
            subst Exact from.2
            (start_keeps_set claimed.node.id was ∙ all_at Exact now.nodes was drawing.sets_are from.1 ∙ ap (set_in app values) (sym (start_keeps_task claimed.node.id was)))));
      }

  -- ---- while jobs are drawn

  -- by the recorded sets, which are the declared ones, the node of a clear task is unblocked
  pub unblocked : (first now : Progress V) (cells : List V) (state : State V) (text : List ℕ) (jobs : List (Job V)) (drawing : IsDrawing app first cells state text now jobs) (node : Node) → Contains now.nodes node
      → IsClear app (whole_state now drawing.values) node.task → is_unblocked app now.nodes node ≡ true
  unblocked first now cells state text jobs drawing node there clear =
      let values = drawing.values in
      let key = node.task.key in
      let earlier = earlier_than key now.nodes in
      let same = tasks-earlier_than key now.nodes in
      let Exact = λ (other : Node). other.set ≡ set_in app values other.task in
      let free : is_blocked now.nodes node ≡ false = list_any_none (λ (other : Node). conflicts_with other.set node.set) earlier (λ k d inside.
      let other = get_or earlier k d in
      let among = Contains-get_or earlier k d inside in
      let were = from_filter (λ (n : Node). is_lt (key_cmp n.task.key key)) now.nodes other among in
      let task_there = subst (λ tasks. Contains tasks other.task) same (in_map (λ (n : Node). n.task) earlier other among) in
      let apart = all_at (λ (task : Task). ¬ Conflicts (set_in app values task) (set_in app values node.task)) (tasks_before key (tasks_of now.nodes)) other.task clear.unblocked.apart task_there in
      let set : other.set ≡ set_in app values other.task = all_at Exact now.nodes other drawing.sets_are were.0 in
      let own : node.set ≡ set_in app values node.task = all_at Exact now.nodes node drawing.sets_are there in
      no_conflict other.set node.set (λ conflict. apart (subst (λ s. Conflicts s (set_in app values node.task)) set (subst (Conflicts other.set) own conflict)))) in
      and_from _ _ (ap not free) (ap (app.is_safe node.task) same ∙ clear.unblocked.safe)
    where
      no_conflict : (set other : Accesses) → ¬ Conflicts set other → conflicts_with set other ≡ false
      no_conflict set other free = by_case (conflicts_with set other) refl
        where
          by_case : (test : Bool) → conflicts_with set other ≡ test → test ≡ false
          by_case true is = absurd (free ((basis.decided set other).0 is))
          by_case false is = refl

  -- ---- all jobs of a round

  module _ (first now : Progress V) (cells : List V) (state : State V) (text : List ℕ) (jobs turn : List (Job V))
      (drawing : IsDrawing app first cells state text now jobs) (all_drawn : clear_nodes app now.nodes ≡ []) (same : IsPermutation jobs turn) (in_order : IsAscending (job_tasks turn)) where
    abbrev values : List V
    values = drawing.values

    sound : IsSound app now jobs values
    sound = drawing.course.come.sound

    whole_clear : (task : Task) → IsClear app (whole_state now values) task → IsClear app state task
    whole_clear task clear = subst (λ (s : State V). IsClear app s task) drawing.state_is clear

    turn_is_clear : (task : Task) → Contains (job_tasks turn) task → IsClear app state task
    turn_is_clear task has =
        let from : (job : Job V) × Contains turn job × (job.task ≡ task) = from_map (λ (job : Job V). job.task) turn task has in
        let drawn = Contains-permutation turn jobs from.0 (IsPermutation-sym jobs turn same) from.1 in
        subst (IsClear app state) from.2 (whole_clear from.0.task (job_is_clear basis now jobs values from.0 sound drawn))

    runs : (node : Node) → Contains now.nodes node → is_unblocked app now.nodes node ≡ true → node.running ≡ true
    runs node there free = by_case node.running refl
      where
        by_case : (running : Bool) → node.running ≡ running → running ≡ true
        by_case true is = refl
        by_case false is = absurd (none node (subst (λ nodes. Contains nodes node) all_drawn
            (in_filter (is_clear app now.nodes) now.nodes node there (and_from _ _ (ap not is) free))))

    -- a job has the task of the node with its key
    task_of_key : (job : Job V) (node : Node) → Contains jobs job → Contains now.nodes node → job.task.key ≡ node.task.key → job.task ≡ node.task
    task_of_key job node has there key =
        let own = node_of basis now jobs values job sound has in
        let graph = sound.keys_and_counts.graph in
        let by_job = basis.have_keys now.nodes own.node graph own.there in
        let by_node = basis.have_keys now.nodes node graph there in
        let is = own.is.task in
        cc

    clear_has_turn : (task : Task) → IsClear app state task → Contains (job_tasks turn) task
    clear_has_turn task clear =
        let here_clear = subst (λ (s : State V). IsClear app s task) (sym drawing.state_is) clear in
        let from : (node : Node) × Contains now.nodes node × (node.task ≡ task) = from_map (λ (n : Node). n.task) now.nodes task here_clear.pending in
        let node = from.0 in
        let running = runs node from.1 (unblocked first now cells state text jobs drawing node from.1 (subst (IsClear app (whole_state now values)) (sym from.2) here_clear)) in
        let any : HasJob app jobs node = all_at (λ (n : Node). n.running ≡ true → HasJob app jobs n) now.nodes node sound.outs_match.all from.1 running in
        let its = Any-from_list_any (λ (j : Job V). is_eq (key_cmp j.task.key node.task.key)) jobs any in
        let job = its.1 in
        let has : Contains jobs job = (its.0, its.2, its.3) in
        let key = same_key basis.exact job.task.key node.task.key its.4 in
        let task_is : job.task ≡ node.task = task_of_key job node has from.1 key in
        subst (Contains (job_tasks turn)) (task_is ∙ from.2) (in_map (λ (j : Job V). j.task) turn job (Contains-permutation jobs turn job same has))

    they_are_the_clear : job_tasks turn ≡ clear_tasks app state
    they_are_the_clear =
        let ready = subst (IsReady app) drawing.state_is drawing.course.come.sound.ready in
        let listed = basis.listed state ready in
        same_tasks basis.irreflexive basis.transitive (job_tasks turn) (clear_tasks app state) in_order listed.ascending
        (λ task has. listed.all task (turn_is_clear task has))
        (λ task has. clear_has_turn task (all_at (IsClear app state) (clear_tasks app state) task listed.clear.clear has))

    round_ends : IsEnding app first cells (after_round app state) text now turn
    round_ends =
        let course = drawing.course in
        record {
          values = values;
          course = record {
            drained = course.drained;
            entries = course.entries;
            come = basis.any_order first cells course.drained course.entries now jobs turn values course.come same;
            text_is = course.text_is;
            over = course.over;
          };
          in_order = in_order;
          leads = ap (after_tasks app.act (job_tasks turn)) drawing.state_is ∙ ap (λ tasks. after_tasks app.act tasks state) they_are_the_clear;
        }

  pub drawn_jobs_are_the_round : DrawnJobsAreTheRound app
  drawn_jobs_are_the_round = round_ends

  -- ---- the number of jobs

  pub ends_are_the_round : EndsAreTheRound app
  ends_are_the_round first now cells state text jobs turn drawing all_drawn same in_order =
      sym (length-map turn (λ job. job.task)) ∙ ap length (they_are_the_clear first now cells state text jobs turn drawing all_drawn same in_order)

  pub rounds_have_jobs : RoundsHaveJobs app
  rounds_have_jobs first now cells state text jobs drawing all_drawn pending empty =
      let sound = subst (λ jobs. IsSound app now jobs drawing.values) empty drawing.course.come.sound in
      basis.some_clear now drawing.values sound
      (λ none. pending (ap (λ (s : State V). s.pending) (sym drawing.state_is) ∙ ap tasks_of none))
      all_drawn

  pub drawn_jobs_differ : DrawnJobsDiffer app
  drawn_jobs_differ first now cells state text jobs drawing = drawing.course.come.sound.outs_match.own

  -- a claim takes one of the clear nodes
  pub claims_leave_fewer : ClaimsLeaveFewer app
  claims_leave_fewer old now pick job claimed =
      let clear = clear_nodes app old.nodes in
      let id = claimed.node.id in
      let taken = ap not (eq-eqb id.at id.at refl) in
      let fewer = fewer_where_one_fails (λ (node : Node). not (is_at id node)) clear claimed.node (found_is_there clear _ claimed.node claimed.chosen) taken in
      omega (arith, fewer, ap length (basis.take_one old now pick job claimed))
