-- Clear tasks act one after another, with nothing between the claim of one and its end.
use Rattle.std.proofs.Common.{◌≡◌, ◌≢◌, ⊎_elim, ℕ, suc, ◌+◌, not, Bool, true, false, List, [], ◌∷◌, length, Some, refl, sym, ap, subst, ◌∙◌}
use Rattle.std.specs.Prelude.{Contains, IsSome}
use Rattle.std.specs.List.{AllByRecursion, filter}
use Rattle.std.specs.Option.{is_some, option_or}
use Rattle.std.specs.declared.cmp.Ordering.TheVariants.{Less}
use Rattle.std.proofs.lemmas.Bool.{true≢false, and_from}
use Rattle.std.proofs.lemmas.List.{length-map}
use Rattle.std.proofs.lemmas.Option.{same_Some}
use Rattle.plain_laws.specs.Members.{all_at, all_from, from_filter, from_map, in_filter, in_map}
use Rattle.task_order.specs.declared.task.Task.{Task}
use Rattle.task_order.specs.Key.{key_cmp}
use Rattle.task_order.specs.TaskList.{IsAscending}
use Rattle.output_log.specs.Entries.{with_entry}
use Rattle.kdg_graph.specs.declared.node_id.NodeId.{NodeId}
use Rattle.kdg_graph.specs.Node.{Node}
use Rattle.kdg_graph.specs.Nodes.{ids_of, node_at, tasks_of}
use Rattle.kdg_graph.specs.NodeLaws.{ascending_filtered}
use Rattle.app_laws.specs.Applications.{Application}
use Rattle.commuting.specs.Clear.{IsClear, IsReady}
use Rattle.commuting.specs.Rounds.{clear_tasks}
use Rattle.commuting.specs.States.{State, after_task, after_tasks}
use Rattle.crew.specs.declared.answers.OverCause.TheVariants as cause
use Rattle.run_laws.specs.Acting.{HasActed}
use Rattle.run_laws.specs.Course.{HasCome}
use Rattle.run_laws.specs.Events.{clear_nodes, is_clear}
use Rattle.run_laws.specs.Jobs.{Job}
use Rattle.run_laws.specs.Progress.{Progress, whole_state}
use Rattle.run_laws.specs.Rest.{IsClearNode}
use Rattle.run_laws.specs.Sound.{HasJob, IsSound}
use Rattle.source_pool.specs.Basis.{Basis}
use Rattle.source_pool.specs.Course.{IsActing, IsAtRest}
use Rattle.source_pool.specs.KeptLaws.{ActsAreTheRound}
use Rattle.source_pool.specs.Laws.{ActsBegin, ActsComeToRest, ActsGoOn, FirstMayAct, RoundsHaveActs, TooManyActsNeverEnd}
use Rattle.source_pool.proofs.Drawing.{drawings_begin, unblocked}
use Rattle.source_pool.proofs.Lists.{same_tasks}

-- ---- some of the nodes

no_nodes : (nodes : List Node) → [] ≡ ids_of nodes → nodes ≡ []
no_nodes [] is = refl
no_nodes (node ∷ nodes) is = cc

module _ {V : Type 0} (app : Application V) where
  -- the first of the nodes that are left, and the others
  pub record FirstLeft (now : Progress V) (state target : State V) (id : NodeId) (ids : List NodeId) : Type 0 where
    pub node : Node
    pub others : List Node
    pub id_is : id ≡ node.id
    pub ids_are : ids ≡ ids_of others
    pub clear : IsClearNode app now.nodes node
    pub others_clear : AllByRecursion (IsClearNode app now.nodes) others
    pub later : AllByRecursion (λ (other : Task). key_cmp node.task.key other.key ≡ Less) (tasks_of others)
    pub in_order : IsAscending (tasks_of others)
    pub leads : after_tasks app.act (tasks_of others) (after_task app.act node.task state) ≡ target

module _ {V : Type 0} {app : Application V} (basis : Basis app) where
  -- ---- the beginning

  module _ (start now : Progress V) (cells : List V) (state : State V) (text : List ℕ) (rest : IsAtRest app start cells state text now) where
    abbrev nodes : List Node
    nodes = clear_nodes app now.nodes

    abbrev values : List V
    values = rest.values

    sound : IsSound app now [] values
    sound = rest.course.come.sound

    node_is_clear : (node : Node) → Contains nodes node → IsClearNode app now.nodes node
    node_is_clear node has = from_filter (is_clear app now.nodes) now.nodes node has

    not_running : (node : Node) → Contains now.nodes node → node.running ≡ false
    not_running node there = by_case node.running refl
      where
        by_case : (running : Bool) → node.running ≡ running → running ≡ false
        by_case true is = absurd (true≢false (sym (all_at (λ (n : Node). n.running ≡ true → HasJob app [] n) now.nodes node sound.outs_match.all there is)))
        by_case false is = refl

    task_is_clear : (task : Task) → Contains (tasks_of nodes) task → IsClear app state task
    task_is_clear task has =
        let from : (node : Node) × Contains nodes node × (node.task ≡ task) = from_map (λ (n : Node). n.task) nodes task has in
        let clear = node_is_clear from.0 from.1 in
        subst (λ (s : State V). IsClear app s task) rest.state_is (subst (IsClear app (whole_state now values)) from.2 (basis.suffice.clear now [] values from.0 sound clear.0 clear.1))

    clear_has_node : (task : Task) → IsClear app state task → Contains (tasks_of nodes) task
    clear_has_node task clear =
        let drawing = drawings_begin basis start now cells state text rest in
        let here_clear = subst (λ (s : State V). IsClear app s task) (sym drawing.state_is) clear in
        let from : (node : Node) × Contains now.nodes node × (node.task ≡ task) = from_map (λ (n : Node). n.task) now.nodes task here_clear.pending in
        let node = from.0 in
        let free = unblocked basis start now cells state text [] drawing node from.1 (subst (IsClear app (whole_state now drawing.values)) (sym from.2) here_clear) in
        subst (Contains (tasks_of nodes)) from.2
        (in_map (λ (n : Node). n.task) nodes node (in_filter (is_clear app now.nodes) now.nodes node from.1 (and_from _ _ (ap not (not_running node from.1)) free)))

    in_order : IsAscending (tasks_of nodes)
    in_order = ascending_filtered (is_clear app now.nodes) now.nodes sound.keys_and_counts.graph.ascending

    pub they_are_the_clear : tasks_of nodes ≡ clear_tasks app state
    they_are_the_clear =
        let ready = subst (IsReady app) rest.state_is sound.ready in
        let listed = basis.listed state ready in
        same_tasks basis.irreflexive basis.transitive (tasks_of nodes) (clear_tasks app state) in_order listed.ascending
        (λ task has. listed.all task (task_is_clear task has))
        (λ task has. clear_has_node task (all_at (IsClear app state) (clear_tasks app state) task listed.clear.clear has))

  pub acts_begin : ActsBegin app
  acts_begin start now cells state text rest = record {
    state = state;
    rest = rest;
    nodes = clear_nodes app now.nodes;
    ids_are = refl;
    clear = all_from (IsClearNode app now.nodes) (clear_nodes app now.nodes) (node_is_clear start now cells state text rest);
    in_order = in_order start now cells state text rest;
    leads = ap (λ tasks. after_tasks app.act tasks state) (they_are_the_clear start now cells state text rest);
  }

  pub acts_are_the_round : ActsAreTheRound app
  acts_are_the_round start now cells state text rest =
      sym (length-map (clear_nodes app now.nodes) (λ node. node.task)) ∙ ap length (they_are_the_clear start now cells state text rest)

  pub rounds_have_acts : RoundsHaveActs app
  rounds_have_acts start now cells state text rest some empty = basis.some_clear now rest.values rest.course.come.sound some (no_nodes (clear_nodes app now.nodes) (sym empty))

  -- ---- the first of those that are left

  first_left : (now : Progress V) (state target : State V) (id : NodeId) (ids : List NodeId) (nodes : List Node) → id ∷ ids ≡ ids_of nodes → AllByRecursion (IsClearNode app now.nodes) nodes → IsAscending (tasks_of nodes)
      → after_tasks app.act (tasks_of nodes) state ≡ target → FirstLeft app now state target id ids
  first_left now state target id ids [] is clear up leads = absurd (some_is_not_none is)
    where
      some_is_not_none : id ∷ ids ≡ [] → ⊥
      some_is_not_none same = cc
  first_left now state target id ids (node ∷ nodes) is clear up leads = record {
    node = node;
    others = nodes;
    id_is = heads is;
    ids_are = tails is;
    clear = clear.0;
    others_clear = clear.1;
    later = up.0;
    in_order = up.1;
    leads = leads;
  }
    where
      heads : id ∷ ids ≡ node.id ∷ ids_of nodes → id ≡ node.id
      heads same = cc

      tails : id ∷ ids ≡ node.id ∷ ids_of nodes → ids ≡ ids_of nodes
      tails same = cc

  -- ---- one act

  module _ (start now : Progress V) (cells : List V) (target : State V) (text : List ℕ) (id : NodeId) (ids : List NodeId) (acting : IsActing app start cells target text now (id ∷ ids)) where
    pub first : FirstLeft app now acting.state target id ids
    first = first_left now acting.state target id ids acting.nodes acting.ids_are acting.clear acting.in_order acting.leads

    found : node_at now.nodes first.node.id ≡ Some first.node
    found = basis.have_ids now.nodes first.node acting.rest.course.come.sound.keys_and_counts.graph first.clear.0

    of_clear : Contains (ids_of (clear_nodes app now.nodes)) id
    of_clear =
        subst (Contains (ids_of (clear_nodes app now.nodes))) (sym first.id_is)
        (in_map (λ (n : Node). n.id) (clear_nodes app now.nodes) first.node (in_filter (is_clear app now.nodes) now.nodes first.node first.clear.0 first.clear.1))

    has_node : IsSome (node_at now.nodes id)
    has_node = subst (λ (i : NodeId). IsSome (node_at now.nodes i)) (sym first.id_is) (ap is_some found)

    pub at_id : node_at now.nodes id ≡ Some first.node
    at_id = ap (node_at now.nodes) first.id_is ∙ found

    -- the others have other ids, since their keys are later
    differs : (other : Node) → Contains first.others other → other.id ≢ id
    differs other has same =
        let later = all_at (λ (t : Task). key_cmp first.node.task.key t.key ≡ Less) (tasks_of first.others) other.task first.later (in_map (λ (n : Node). n.task) first.others other has) in
        let there = (all_at (IsClearNode app now.nodes) first.others other first.others_clear has).0 in
        let is = same_Some other first.node (sym (basis.have_ids now.nodes other acting.rest.course.come.sound.keys_and_counts.graph there) ∙ ap (node_at now.nodes) same ∙ at_id) in
        basis.irreflexive first.node.task.key other.task.key later (ap (λ (n : Node). n.task.key) (sym is))

    goes_on : (next : Progress V) → HasActed app now id next → IsActing app start cells target text next ids
    goes_on next acted =
        let course = acting.rest.course in
        let values = acting.rest.values in
        let node = first.node in
        record {
          state = after_task app.act node.task acting.state;
          rest = record {
            values = (app.act node.task values).cells;
            course = record {
              drained = course.drained;
              entries = with_entry node.task.key (app.act node.task values).text course.entries;
              come = basis.acts start cells course.drained course.entries now next id node [] values course.come acted at_id;
              text_is = course.text_is;
              over = ap (λ (p : Progress V). p.over) acted.finished.after ∙ ap (λ (p : Progress V). p.over) acted.played.started.claimed.after ∙ course.over;
            };
            state_is = basis.act_on_whole now next id node [] values acted at_id course.come.sound ∙ ap (after_task app.act node.task) acting.rest.state_is;
          };
          nodes = first.others;
          ids_are = first.ids_are;
          clear = all_from (IsClearNode app next.nodes) first.others (λ other has.
              basis.acts_leave_clear now next id other [] values course.come.sound acted (differs other has) (all_at (IsClearNode app now.nodes) first.others other first.others_clear has));
          in_order = first.in_order;
          leads = first.leads;
        }

  pub first_may_act : FirstMayAct app
  first_may_act start now cells target text id ids acting = (of_clear start now cells target text id ids acting, has_node start now cells target text id ids acting, acting.rest.course.over)

  pub acts_go_on : ActsGoOn app
  acts_go_on start now next cells target text id ids acting acted = (
    goes_on start now cells target text id ids acting next acted,
    ap (λ (p : Progress V). p.ended) acted.finished.after ∙ ap (λ (p : Progress V). suc p.ended) acted.played.started.claimed.after,
  )

  -- the mark that is left tells of it
  pub too_many_acts_never_end : TooManyActsNeverEnd app
  too_many_acts_never_end start now next cells target text id ids created limit acting many =
      let course = acting.rest.course in
      let Come = λ (held : List (Job V)). HasCome app start cells course.drained course.entries next held acting.rest.values in
      let new = cause.Budget (many.midway.created + length many.done.effect.children) many.midway.limit in
      let over : next.over ≡ Some (cause.Budget created limit) =
      ap (λ (p : Progress V). p.over) many.after ∙ ap (λ old. option_or old (Some new)) (ap (λ (p : Progress V). p.over) many.played.started.claimed.after ∙ course.over)
      ∙ ap (λ n. Some (cause.Budget n many.midway.limit)) (sym many.created_is) ∙ ap (λ n. Some (cause.Budget created n)) (sym many.limit_is) in
      let held = basis.act_faults start cells course.drained course.entries now next id (cause.Budget created limit) [] acting.rest.values course.come many in
      let mark = ⊎_elim (λ (come : Come []). come.true_mark created limit over) (λ (more : (job : Job V) × (job.node ≡ id) × Come (job ∷ [])). more.2.true_mark created limit over) held in
      (mark.2, mark.0, mark.1)

  pub acts_come_to_rest : ActsComeToRest app
  acts_come_to_rest start now cells target text acting =
      let empty = no_nodes acting.nodes acting.ids_are in
      subst (λ (s : State V). IsAtRest app start cells s text now) (ap (λ nodes. after_tasks app.act (tasks_of nodes) acting.state) (sym empty) ∙ acting.leads) acting.rest
