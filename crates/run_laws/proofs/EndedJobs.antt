-- The jobs after the end of a task.
use Rattle.std.proofs.Common.{◌≡◌, ◌≢◌, true, false, List, ◌++◌, Some, refl, sym, ap, subst, ◌∙◌, ⊎_elim}
use Rattle.std.specs.Prelude.{Contains}
use Rattle.std.specs.List.{AllByRecursion, list_any}
use Rattle.std.specs.Ordering.{is_eq}
use Rattle.std.specs.declared.cmp.Ordering.{Ordering}
use Rattle.std.specs.declared.cmp.Ordering.TheVariants.{Less, Equal, Greater}
use Rattle.std.proofs.lemmas.Bool.{true≢false}
use Rattle.plain_laws.specs.Members.{all_at, all_from}
use Rattle.plain_laws.specs.Lists.{All-joined}
use Rattle.task_order.specs.declared.key.Key.{Key}
use Rattle.task_order.specs.Key.{key_cmp}
use Rattle.cell_store.specs.Cells.{cells_given}
use Rattle.kdg_graph.specs.Node.{Node}
use Rattle.kdg_graph.specs.Nodes.{node_with_key}
use Rattle.app_laws.specs.Applications.{Application}
use Rattle.app_laws.specs.Order.{Pairwise}
use Rattle.run_laws.specs.Jobs.{Done, Job}
use Rattle.run_laws.specs.Events.{fresh_from, renewals}
use Rattle.run_laws.specs.FinishBasis.{FinishBasis}
use Rattle.run_laws.specs.Finishes.{IsEnd}
use Rattle.run_laws.specs.Lists.{all_but_one, any_but_one, pairwise_but_one, pairwise_with_one}
use Rattle.run_laws.specs.Progress.{Progress}
use Rattle.run_laws.specs.Sound.{HasJob, IsOfNode, JobsMatch}
use Rattle.run_laws.proofs.Ended.{is_there}
use Rattle.run_laws.proofs.EndedNodes.{ended_key, own_key, running_stays}

module _ {V : Type 0} {app : Application V} (basis : FinishBasis app) where
  module _ {old now : Progress V} {done : Done V} {job : Job V} {jobs others : List (Job V)} {values : List V} (end : IsEnd app old jobs values done job others now) where
    -- a job of another task has its node still
    job_stays : (other : Job V) → job.task.key ≢ other.task.key → IsOfNode app old.nodes other → IsOfNode app now.nodes other
    job_stays other differ of_node =
        let node = of_node.0 in
        let has : Contains old.nodes node × (node.task.key ≡ other.task.key) = basis.keys_find old.nodes other.task.key node of_node.1 in
        let apart : node.id ≢ end.finished.node.id = λ same. differ (other_key node has.0 has.1 same) in
        let stays : Contains now.nodes node = running_stays basis end node has.0 of_node.2.running apart in
        let found : node_with_key now.nodes node.task.key ≡ Some node = basis.have_keys now.nodes node end.finished.graph stays in
        (node, subst (λ (key : Key). node_with_key now.nodes key ≡ Some node) has.1 found, of_node.2)
      where
        other_key : (node : Node) → Contains old.nodes node → node.task.key ≡ other.task.key → node.id ≡ end.finished.node.id → job.task.key ≡ other.task.key
        other_key node has key same =
            let first = basis.have_ids old.nodes node end.sound.keys_and_counts.graph has in
            let second = basis.have_ids old.nodes end.finished.node end.sound.keys_and_counts.graph (is_there basis end) in
            let ended = ended_key basis end in
            cc

    pub differ : AllByRecursion (λ other. job.task.key ≢ other.task.key) (end.performed.before ++ end.performed.after)
    differ =
        pairwise_with_one (λ job other. job.task.key ≢ other.task.key) (λ job other apart same. apart (sym same)) end.performed.before job end.performed.after
        (subst (Pairwise (λ job other. job.task.key ≢ other.task.key)) end.performed.there end.sound.outs_match.own)

    others_named : AllByRecursion (IsOfNode app now.nodes) (end.performed.before ++ end.performed.after)
    others_named =
        All-joined (λ other. job.task.key ≢ other.task.key) (IsOfNode app old.nodes) (IsOfNode app now.nodes) job_stays (end.performed.before ++ end.performed.after) differ
        (all_but_one (IsOfNode app old.nodes) end.performed.before job end.performed.after (subst (AllByRecursion (IsOfNode app old.nodes)) end.performed.there end.sound.outs_match.named))

    others_own : Pairwise (λ job other. job.task.key ≢ other.task.key) (end.performed.before ++ end.performed.after)
    others_own =
        pairwise_but_one (λ job other. job.task.key ≢ other.task.key) end.performed.before job end.performed.after
        (subst (Pairwise (λ job other. job.task.key ≢ other.task.key)) end.performed.there end.sound.outs_match.own)

    not_equal : (key other : Key) → key ≢ other → is_eq (key_cmp key other) ≡ false
    not_equal key other differ = go (key_cmp key other) refl
      where
        go : (o : Ordering) → key_cmp key other ≡ o → is_eq o ≡ false
        go Less is = refl
        go Equal is = absurd (differ (basis.exact key other is))
        go Greater is = refl

    has_other_job : (was : Node) → Contains old.nodes was → was.id ≢ end.finished.node.id → was.running ≡ true → HasJob app (end.performed.before ++ end.performed.after) was
    has_other_job was has apart runs =
        let job_of : HasJob app jobs was = all_at (λ node. node.running ≡ true → HasJob app jobs node) old.nodes was end.sound.outs_match.all has runs in
        any_but_one (λ job. is_eq (key_cmp job.task.key was.task.key)) end.performed.before job end.performed.after
        (subst (λ jobs. HasJob app jobs was) end.performed.there job_of)
        (not_equal job.task.key was.task.key (λ same. apart (ap (λ (node : Node). node.id) (own_key basis end was end.finished.node has (is_there basis end) (sym same ∙ sym (ended_key basis end))))))

    all_have_jobs : AllByRecursion (λ node. node.running ≡ true → HasJob app (end.performed.before ++ end.performed.after) node) now.nodes
    all_have_jobs = all_from (λ node. node.running ≡ true → HasJob app (end.performed.before ++ end.performed.after) node) now.nodes (λ node has runs.
        ⊎_elim
        (λ kept. let same : node.task ≡ kept.0.task = ap (λ (node : Node). node.task) kept.3 in
        let still : kept.0.running ≡ true = sym (ap (λ (node : Node). node.running) kept.3) ∙ runs in
        subst (λ task. list_any (λ job. is_eq (key_cmp job.task.key task.key)) (end.performed.before ++ end.performed.after) ≡ true) (sym same) (has_other_job kept.0 kept.1 kept.2 still))
        (λ fresh. absurd (true≢false (sym runs ∙ ap (λ (node : Node). node.running) fresh.2)))
        (basis.no_other old.nodes end.finished.node.id (renewals app (cells_given old.cells done.effect.bundle) old.nodes end.finished.node) (fresh_from done.task.key 0 done.effect.children) now.nodes end.finished.nodes node has))

    pub jobs_match_after : JobsMatch app now.nodes others
    jobs_match_after = subst (JobsMatch app now.nodes) (sym end.performed.others_are) (record { named = others_named; all = all_have_jobs; own = others_own })
