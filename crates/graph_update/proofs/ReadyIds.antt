-- Ids of clear nodes that wait to be claimed.
use Rattle.std.proofs.Common.{◌≡◌, ◌≢◌, inl, inr, not, ℕ, zero, suc, ◌%◌, ◌<◌, Bool, true, false, List, [], ◌∷◌, ◌++◌, take, drop, length, slice_get, Option, Some, None, refl, sym, ap, subst, ◌∙◌, arith}
use Rattle.std.specs.Prelude.{Contains, IfSome}
use Rattle.std.specs.List.{AllByRecursion, remove}
use Rattle.std.proofs.lemmas.Bool.{true≢false}
use Rattle.std.proofs.lemmas.Option.{slice_get-get_or}
use Rattle.plain_laws.specs.Members.{found_is_there, all_at, all_from, in_filter, from_filter, in_map, from_map}
use Rattle.plain_laws.specs.Options.{some_injective, none_is_not_some}
use Rattle.plain_laws.specs.Lists.{All-joined}
use Rattle.kdg_graph.specs.declared.node_id.NodeId.{NodeId}
use Rattle.kdg_graph.specs.Edges.{sources_of}
use Rattle.kdg_graph.specs.Laws.{NodesHaveIds}
use Rattle.kdg_graph.specs.Node.{Node}
use Rattle.kdg_graph.specs.Nodes.{HaveOwnIds, IsGraph, ids_of, is_at}
use Rattle.kdg_graph.specs.Rewrite.{without}
use Rattle.kdg_graph.specs.NodeLaws.{not_at, own_filtered}
use Rattle.app_laws.specs.Applications.{Application}
use Rattle.app_laws.specs.Order.{Pairwise}
use Rattle.run_laws.specs.Jobs.{Done, Job}
use Rattle.graph_update.specs.declared.ready.Among.{Among}
use Rattle.graph_update.specs.declared.ready.Among.TheVariants as among
use Rattle.graph_update.specs.declared.ready.Ready.{Ready}
use Rattle.graph_update.specs.Engine.{AreReady}
use Rattle.graph_update.specs.Ready.{AreEnough, MayPick}
use Rattle.run_laws.specs.Events.{IsOfClear, IsFinished, IsOverLimit, clear_nodes, is_clear}
use Rattle.run_laws.specs.Laws.{Event, Moment}
use Rattle.run_laws.specs.Lists.{all_but_one, pairwise_but_one, pairwise_with_one}
use Rattle.crew.specs.Jobs.{IsPerformed}
use Rattle.run_laws.specs.Progress.{Progress}
use Rattle.run_laws.specs.Sound.{IsSound}
use Rattle.run_laws.specs.Rest.{ClearNodesStayClear}
use Rattle.graph_update.proofs.ClaimedNodes.{id_taken}
use Rattle.graph_update.proofs.ClearIds.{clear_are_safe, is_safe_id}
use Rattle.graph_update.proofs.Picked.{IsPick, id_at, pick_is, picked_at}

abbrev Once : List NodeId → Type 0
Once ids = Pairwise (λ id other. id ≢ other) ids

turned : (id other : NodeId) → id ≢ other → other ≢ id
turned id other differ same = differ (sym same)

-- a list about what stands at a place of it
parted : {X : Type 0} (xs : List X) (place : ℕ) (x : X) → slice_get xs place ≡ Some x → xs ≡ take place xs ++ x ∷ drop (suc place) xs
parted [] place x is = absurd (none_is_not_some x is)
parted (y ∷ xs) zero x is = ap (λ first. first ∷ xs) (some_injective y x is)
parted (y ∷ xs) (suc place) x is = ap (λ rest. y ∷ rest) (parted xs place x is)

-- where some are there, one stands at the remainder of each pick
some_at : {X : Type 0} (xs : List X) (pick : ℕ) → None ≡ slice_get xs (pick % length xs) → xs ≡ []
some_at [] pick is = refl
some_at (x ∷ xs) pick is =
    let within : pick % length (x ∷ xs) < length (x ∷ xs) = omega arith in
    absurd (none_is_not_some _ (is ∙ slice_get-get_or (x ∷ xs) (pick % length (x ∷ xs)) x within))

others_ids : (id : NodeId) (nodes : List Node) → AllByRecursion (λ (other : Node). other.id ≢ id) nodes → AllByRecursion (λ other. id ≢ other) (ids_of nodes)
others_ids id [] others = tt
others_ids id (node ∷ nodes) others = (turned node.id id others.0, others_ids id nodes others.1)

-- nodes that have ids of their own are named once
own_once : (nodes : List Node) → HaveOwnIds nodes → Once (ids_of nodes)
own_once [] own = tt
own_once (node ∷ nodes) own = (others_ids node.id nodes own.0, own_once nodes own.1)

pub same_pick : (of : Among) (pick : ℕ) → MayPick of pick pick
same_pick among.All pick = refl
same_pick among.Known pick = tt

module _ {V : Type 0} (app : Application V) where
  clear_once : (nodes : List Node) → IsGraph nodes → Once (ids_of (clear_nodes app nodes))
  clear_once nodes graph = own_once (clear_nodes app nodes) (own_filtered (is_clear app nodes) nodes graph.own_ids)

  pub all_are_ready : (nodes : List Node) (ready : Ready) → IsGraph nodes → ready.ids.items ≡ ids_of (clear_nodes app nodes) → AreReady app nodes ready
  all_are_ready nodes ready graph is = record {
    clear = subst (AllByRecursion (IsOfClear app nodes)) (sym is) (all_from (IsOfClear app nodes) (ids_of (clear_nodes app nodes)) (λ id has. has));
    once = subst Once (sym is) (clear_once nodes graph);
    all = λ current. is;
  }

  pub some_are_ready : (nodes : List Node) (ready : Ready) (ids : List NodeId) → ready.ids.items ≡ ids → ready.is_current ≡ false → AllByRecursion (IsOfClear app nodes) ids → Once ids → AreReady app nodes ready
  some_are_ready nodes ready ids is stale clear once = record {
    clear = subst (AllByRecursion (IsOfClear app nodes)) (sym is) clear;
    once = subst Once (sym is) once;
    all = λ current. absurd (true≢false (sym current ∙ stale));
  }

  -- the first of those that are known is a clear node's
  pub first_clear : (nodes : List Node) (ready : Ready) (found : Option NodeId) → AreReady app nodes ready → found ≡ slice_get ready.ids.items 0 → IfSome found (IsOfClear app nodes)
  first_clear nodes ready None are is = tt
  first_clear nodes ready (Some id) are is = all_at (IsOfClear app nodes) ready.ids.items id are.clear (found_is_there ready.ids.items 0 id (sym is))

  -- where all are known and none is the first one, no node is clear
  pub none_clear : (nodes : List Node) (ready : Ready) → AreReady app nodes ready → AreEnough among.All ready → None ≡ slice_get ready.ids.items 0 → clear_nodes app nodes ≡ []
  none_clear nodes ready are current none = no_ids (clear_nodes app nodes) (none ∙ ap (λ (ids : List NodeId). slice_get ids 0) (are.all current))
    where
      no_ids : (clear : List Node) → None ≡ slice_get (ids_of clear) 0 → clear ≡ []
      no_ids [] is = refl
      no_ids (node ∷ clear) is = absurd (none_is_not_some node.id is)

  -- One is picked of those that are known. Where they are all, it is the pick that counts.
  pub chosen : (nodes : List Node) (ready : Ready) (of : Among) (pick : ℕ) (found : Option NodeId) → AreReady app nodes ready → AreEnough of ready → found ≡ slice_get ready.ids.items (pick % length ready.ids.items)
      → (other : ℕ) × MayPick of pick other × IsPick app nodes other found
  chosen nodes ready of pick found are enough is = by_current ready.is_current refl
    where
      by_found : (found : Option NodeId) → found ≡ slice_get ready.ids.items (pick % length ready.ids.items) → ready.ids.items ≢ [] → (other : ℕ) × Unit {0} × IsPick app nodes other found
      by_found None none some = absurd (some (some_at ready.ids.items pick none))
      by_found (Some id) at some =
          let clear = all_at (IsOfClear app nodes) ready.ids.items id are.clear (found_is_there ready.ids.items (pick % length ready.ids.items) id (sym at)) in
          (clear.0, tt, picked_at app nodes id clear)

      by_known : (of : Among) → AreEnough of ready → ready.is_current ≡ false → (other : ℕ) × MayPick of pick other × IsPick app nodes other found
      by_known among.All current stale = absurd (true≢false (sym current ∙ stale))
      by_known among.Known (inl current) stale = absurd (true≢false (sym current ∙ stale))
      by_known among.Known (inr some) stale = by_found found is some

      by_current : (current : Bool) → ready.is_current ≡ current → (other : ℕ) × MayPick of pick other × IsPick app nodes other found
      by_current true current = (pick, same_pick of pick, pick_is app nodes pick ready.ids.items found (are.all current) is)
      by_current false stale = by_known of enough stale

  -- another id than that of the node that was claimed is a clear node's still
  still_clear : (old now : List Node) (id other : NodeId) → clear_nodes app now ≡ without id (clear_nodes app old) → IsOfClear app old other → id ≢ other → IsOfClear app now other
  still_clear old now id other left clear differ =
      let named = from_map (λ (node : Node). node.id) (clear_nodes app old) other clear in
      let stays = ap not (not_at id named.0 (λ same. differ (sym same ∙ named.2))) in
      subst (λ (nodes : List Node). Contains (ids_of nodes) other) (sym left)
      (subst (Contains (ids_of (without id (clear_nodes app old)))) named.2
      (in_map (λ (node : Node). node.id) (without id (clear_nodes app old)) named.0 (in_filter (λ (node : Node). not (is_at id node)) (clear_nodes app old) named.0 named.1 stays)))

  -- without the id of a clear node that was claimed, those that are left are clear, and all of them where they were all
  pub left_are_ready : (old now : List Node) (id : NodeId) (place : ℕ) (ready left : Ready) → IsGraph old → clear_nodes app now ≡ without id (clear_nodes app old) → AreReady app old ready
      → slice_get ready.ids.items place ≡ Some id → left.ids.items ≡ remove ready.ids.items place → left.is_current ≡ ready.is_current → AreReady app now left
  left_are_ready old now id place ready left graph claimed are at is same =
      let ids : List NodeId = ready.ids.items in
      let apart = parted ids place id at in
      let before : List NodeId = take place ids in
      let after : List NodeId = drop (suc place) ids in
      let clear = all_but_one (IsOfClear app old) before id after (subst (AllByRecursion (IsOfClear app old)) apart are.clear) in
      let once : Once (before ++ id ∷ after) = subst Once apart are.once in
      let others = pairwise_with_one (λ one other. one ≢ other) turned before id after once in
      record {
        clear = subst (AllByRecursion (IsOfClear app now)) (sym is)
            (All-joined (IsOfClear app old) (λ other. id ≢ other) (IsOfClear app now) (λ other was differ. still_clear old now id other claimed was differ) (before ++ after) clear others);
        once = subst Once (sym is) (pairwise_but_one (λ one other. one ≢ other) before id after once);
        all = λ current.
            let all = are.all (sym same ∙ current) in
            let clear_old : List Node = clear_nodes app old in
            let named = id_at clear_old place id (sym at ∙ ap (λ (held : List NodeId). slice_get held place) all) in
            is ∙ ap (λ (held : List NodeId). remove held place) all
            ∙ sym (id_taken clear_old place named.0 (own_filtered (is_clear app old) old graph.own_ids) named.1)
            ∙ ap (λ one. ids_of (without one clear_old)) named.2 ∙ ap ids_of (sym claimed);
      }

  -- the task of a clear node is safe
  pub known_is_safe : (nodes : List Node) → NodesHaveIds → IsGraph nodes → (id : NodeId) → IsOfClear app nodes id → is_safe_id app nodes id ≡ true
  known_is_safe nodes have_ids graph id clear =
      (from_filter (is_safe_id app nodes) (sources_of nodes) id (subst (λ ids. Contains ids id) (sym (clear_are_safe app nodes have_ids graph)) clear)).1

  -- what is clear stays clear where a task ends
  pub ready_after : ClearNodesStayClear app → (old now : Progress V) (done : Done V) (job : Job V) (jobs others : List (Job V)) (values : List V) → IsSound app old jobs values
      → IsPerformed app jobs done job others → ¬ IsOverLimit app old done → IsFinished app old done now
      → (ids : List NodeId) → AllByRecursion (IsOfClear app old.nodes) ids → AllByRecursion (IsOfClear app now.nodes) ids
  ready_after stay old now done job jobs others values sound performed within finished ids clear = all_from (IsOfClear app now.nodes) ids (λ id among.
      let named = from_map (λ (node : Node). node.id) (clear_nodes app old.nodes) id (all_at (IsOfClear app old.nodes) ids id clear among) in
      let before : Moment V = record { progress = old; jobs = jobs } in
      let after : Moment V = record { progress = now; jobs = others } in
      let still = stay (Event.finishes done ∷ []) before after named.0 (values, sound) (after, ((job, performed), within, finished), refl) ((λ never. never), tt)
      (from_filter (is_clear app old.nodes) old.nodes named.0 named.1) in
      subst (IsOfClear app now.nodes) named.2
      (in_map (λ (node : Node). node.id) (clear_nodes app now.nodes) named.0 (in_filter (is_clear app now.nodes) now.nodes named.0 still.0 still.1)))
