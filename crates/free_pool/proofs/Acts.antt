-- What a task moves that acts in a turn, and what one moves that was to act.
use Rattle.std.proofs.Common.{◌≡◌, ◌≢◌, inl, inr, Bool, false, not, true≢false, is_some, List, [], ◌∷◌, ◌++◌, Option, Some, None, refl, sym, ap, subst, ◌∙◌}
use Rattle.std.specs.Prelude.{IsSome, length, ◌+◌, option_to_list}
use Rattle.std.specs.Option.{option_map}
use Rattle.std.proofs.lemmas.Option.{same_Some}
use Rattle.plain_laws.specs.Members.{found_is_there, from_filter, from_map}
use Rattle.task_order.specs.declared.key.Key.{Key}
use Rattle.task_order.specs.declared.task.Task.{Task}
use Rattle.cell_store.specs.Cells.{part_of}
use Rattle.kdg_graph.specs.declared.node_id.NodeId.{NodeId}
use Rattle.kdg_graph.specs.Laws.{NodesHaveIds}
use Rattle.kdg_graph.specs.Node.{Node}
use Rattle.kdg_graph.specs.Nodes.{HasNode, IsGraph, node_at, task_at}
use Rattle.output_log.specs.Laws.{JoinsAddLengths, JoinsWithOne}
use Rattle.app_laws.specs.Applications.{Application}
use Rattle.crew.specs.declared.answers.Claim.TheVariants as claim
use Rattle.crew.specs.declared.answers.FinishFault.TheVariants as refusal
use Rattle.crew.specs.declared.answers.OverCause.{OverCause}
use Rattle.crew.specs.declared.answers.OverCause.TheVariants as cause
use Rattle.crew.specs.Jobs.{IsPerformed}
use Rattle.run_laws.specs.Acting.{HasActed, IsActFault, IsPlayed}
use Rattle.run_laws.specs.Events.{IsOfClear, clear_nodes, is_clear}
use Rattle.run_laws.specs.Jobs.{Done, Job}
use Rattle.run_laws.specs.Moves.{ClaimAnswersMove, EndsMove, GivingUpMoves, Moved, MovesFollow, RefusalsMove}
use Rattle.run_laws.specs.Progress.{Progress}
use Rattle.worker_gate.specs.Fits.{drained_count}
use Rattle.free_pool.specs.Acted.{job_of}
use Rattle.free_pool.proofs.Moves.{claimed_drains_none, ended_drains_none, some_mark}

pub not_none : (over found : Option OverCause) (answer : Bool) → found ≡ over → is_some found ≡ not answer → answer ≡ false → over ≢ None
not_none over found answer same tells isnt none = true≢false (sym (tells ∙ ap not isnt) ∙ ap is_some (same ∙ none))

-- the id of a clear node finds a node
pub has_node : {V : Type 0} (app : Application V) → NodesHaveIds → (nodes : List Node) (id : NodeId) → IsGraph nodes → IsOfClear app nodes id → HasNode nodes id
has_node app have_ids nodes id graph clear =
    let named = from_map (λ (n : Node). n.id) (clear_nodes app nodes) id clear in
    let there = (from_filter (is_clear app nodes) nodes named.0 named.1).0 in
    subst IsSome (sym (ap (node_at nodes) (sym named.2) ∙ have_ids nodes named.0 graph there)) refl

module _ {V : Type 0} (app : Application V) (old : Progress V) (id : NodeId) where
  module _ (midway : Progress V) (done : Done V) (played : IsPlayed app old id midway done) where
    beside : (had : List (Job V)) → IsPerformed app (played.job ∷ had) done played.job had
    beside had =
        let alone = played.performed in
        record { before = []; after = had; there = refl; others_are = refl; node = alone.node; task = alone.task; effect = alone.effect }

    claims : ClaimAnswersMove app → old.over ≡ None → (had : List (Job V)) → Moved app old had midway (played.job ∷ had) []
    claims moves not_over had = moves old midway played.started.pick (claim.Job played.job) had (not_over, played.started.claimed)

    drains_none : drained_count midway ≡ drained_count old
    drains_none = claimed_drains_none {V = V} {app = app} old midway played.started.pick played.job played.started.claimed

    module _ (have_ids : NodesHaveIds) (graph : IsGraph old.nodes) where
      abbrev node : Node
      node = played.started.claimed.node

      there : node_at old.nodes id ≡ Some node
      there =
          let claimed = played.started.claimed in
          let own : node.id ≡ id = sym (ap (λ (job : Job V). job.node) claimed.job_is) ∙ played.started.node in
          ap (node_at old.nodes) (sym own)
          ∙ have_ids old.nodes node graph (from_filter (is_clear app old.nodes) old.nodes node (found_is_there (clear_nodes app old.nodes) _ node claimed.chosen)).0

      -- the job is the one that is told by the node
      its_job : job_of old id ≡ Some played.job
      its_job =
          ap (option_map (λ (n : Node). let job : Job V = record { node = n.id; task = n.task; bundle = part_of old.cells n.set } in job)) there
          ∙ ap (λ (job : Job V). Some job) (sym played.started.claimed.job_is)

      -- the key is that of the task that the graph has
      its_key : (task : Task) → task_at old.nodes id ≡ Some task → done.task.key ≡ task.key
      its_key task found =
          let own : node.task ≡ task = same_Some node.task task (sym (ap (option_map (λ (n : Node). n.task)) there) ∙ found) in
          ap (λ (t : Task). t.key) (sym played.performed.task ∙ ap (λ (job : Job V). job.task) played.started.claimed.job_is ∙ own)

  module _ (now : Progress V) where
    -- a task that acts ends, and nothing else happens
    pub acted_moves : NodesHaveIds → IsGraph old.nodes → ClaimAnswersMove app → EndsMove app → MovesFollow app → old.over ≡ None → HasActed app old id now
        → (task : Task) → task_at old.nodes id ≡ Some task → (had : List (Job V)) → Moved app old had now had (task.key ∷ [])
    acted_moves have_ids graph claim ends follow not_over acted task found had =
        let midway = acted.midway in
        let job = acted.played.job in
        let key = its_key midway acted.done acted.played have_ids graph task found in
        subst (λ (key : Key). Moved app old had now had (key ∷ [])) key
        (follow old midway now had (job ∷ had) had [] (acted.done.task.key ∷ []) (claims midway acted.done acted.played claim not_over had)
        (ends midway now acted.done job (job ∷ had) had (beside midway acted.done acted.played had) acted.within acted.finished))

    pub acted_drains_none : JoinsWithOne → JoinsAddLengths → HasActed app old id now → drained_count now ≡ drained_count old
    acted_drains_none one add acted =
        ended_drains_none {V = V} {app = app} one add acted.midway now acted.done acted.finished ∙ drains_none acted.midway acted.done acted.played

    -- where no mark stands after a task that didn't act, nothing has happened
    pub nothing_happened : (why : OverCause) → IsActFault app old id now why → now.over ≡ None → now ≡ old
    nothing_happened (cause.Budget created limit) many none =
        absurd (some_mark many.midway.over (cause.Budget (many.midway.created + length many.done.effect.children) many.midway.limit) (sym (ap (λ (p : Progress V). p.over) many.after) ∙ none))
    nothing_happened cause.NoRoom (inl same) none = same
    nothing_happened cause.NoRoom (inr stuck) none = absurd (some_mark stuck.midway.over cause.NoRoom (sym (ap (λ (p : Progress V). p.over) stuck.after) ∙ none))

    -- where one stands, it was claimed
    module _ (have_ids : NodesHaveIds) (graph : IsGraph old.nodes) (claim : ClaimAnswersMove app) (follow : MovesFollow app) (not_over : old.over ≡ None) where
      held : (midway : Progress V) (done : Done V) (played : IsPlayed app old id midway done) → ((jobs : List (Job V)) (job : Job V) → IsPerformed app (job ∷ jobs) done job jobs → Moved app midway (job ∷ jobs) now (job ∷ jobs) [])
          → (had : List (Job V)) → Moved app old had now (option_to_list (job_of old id) ++ had) []
      held midway done played marks had =
          let job = played.job in
          subst (λ (stuck : Option (Job V)). Moved app old had now (option_to_list stuck ++ had) []) (sym (its_job midway done played have_ids graph))
          (follow old midway now had (job ∷ had) (job ∷ had) [] [] (claims midway done played claim not_over had) (marks had job (beside midway done played had)))

      pub stuck_moves : RefusalsMove app → GivingUpMoves app → (why : OverCause) → IsActFault app old id now why → now.over ≢ None
          → (had : List (Job V)) → Moved app old had now (option_to_list (job_of old id) ++ had) []
      stuck_moves refusals gives_up (cause.Budget created limit) many some =
          held many.midway many.done many.played
          (λ jobs job performed. refusals many.midway now many.done (refusal.Budget many.done created limit) job (job ∷ jobs) jobs performed (refl, many.above, many.created_is, many.limit_is, many.after))
      stuck_moves refusals gives_up cause.NoRoom (inl same) some = absurd (some (ap (λ (p : Progress V). p.over) same ∙ not_over))
      stuck_moves refusals gives_up cause.NoRoom (inr stuck) some =
          held stuck.midway stuck.done stuck.played
          (λ jobs job performed. subst (λ (come : Progress V). Moved app stuck.midway (job ∷ jobs) come (job ∷ jobs) []) (sym stuck.after) (gives_up stuck.midway (job ∷ jobs)))

    pub fault_drains_none : (why : OverCause) → IsActFault app old id now why → drained_count now ≡ drained_count old
    fault_drains_none (cause.Budget created limit) many =
        ap (λ (p : Progress V). drained_count p) many.after ∙ drains_none many.midway many.done many.played
    fault_drains_none cause.NoRoom (inl same) = ap (λ (p : Progress V). drained_count p) same
    fault_drains_none cause.NoRoom (inr stuck) = ap (λ (p : Progress V). drained_count p) stuck.after ∙ drains_none stuck.midway stuck.done stuck.played
